-- The responses.
use Rattle.std.specs.Prelude.{◌≡◌, ℕ, ◌-◌, ◌⊎◌, Bool, true, false, List, [], ◌∷◌, ◌++◌, Option, Some, None, codes}
use Rattle.std.specs.Prelude.{length, take, drop, if◌then◌else◌}
use Rattle.std.specs.Option.{option_and_then}
use Rattle.std.specs.Str.{bytes_eq}
use Rattle.http.specs.declared.request.Request.{Request}
use Rattle.http.specs.Request.{head_of}
use Rattle.http1.specs.Fields.{Header}
use Rattle.http_server.specs.declared.response.Response.{Response}
use Rattle.http_server.specs.Response.{IsResponse, fields_of}
use Rattle.swim_history.specs.Texts.{table_text}
use Rattle.swim_history.specs.declared.rows.Row.{Row}
use Rattle.swim_metrics.specs.Headed.{headed}
use Rattle.swim_web.specs.Asking.{Asks, AsksNothing, Looked}
use Rattle.swim_web.specs.Changes.{changes_text}
use Rattle.swim_web.specs.Objects.{members_text}
use Rattle.swim_web.specs.Pages.{page_asked}
use Rattle.swim_web.specs.Recent.{Kept, stream_text}
use Rattle.swim_web.specs.Tables.{IsNoTable}
use Rattle.swim_web.specs.declared.front_page.TheConstants.{FRONT_PAGE, FRONT_POLICY}
use Rattle.swim_web.specs.declared.pages.Page.{Page}
use Rattle.swim_web.specs.declared.pages.Page.TheVariants as pages
use Rattle.swim_web.specs.declared.questions.Question.TheVariants as questions
use Rattle.swim_web.specs.declared.replies.TheConstants.{VERDICT_POLICY}
use Rattle.swim_web.specs.declared.replies.Kind.{Kind}
use Rattle.swim_web.specs.declared.replies.Kind.TheVariants as kinds
use Rattle.swim_web.specs.declared.shelves.Found.{Found}
use Rattle.swim_web.specs.declared.shelves.Found.TheVariants as finds

abbrev pub kind_text : Kind → List ℕ
kind_text kinds.Text = codes "text/plain; charset=utf-8"
kind_text kinds.Metrics = codes "text/plain; version=0.0.4; charset=utf-8"
kind_text kinds.Json = codes "application/json"
kind_text kinds.Html = codes "text/html; charset=utf-8"
kind_text kinds.Events = codes "text/event-stream"
kind_text kinds.Verdict = codes "text/html; charset=utf-8"

-- nothing but the page runs or is shown, and no other page may show it
abbrev pub policy_text : Kind → List ℕ
policy_text kinds.Html = FRONT_POLICY.now
policy_text kinds.Verdict = VERDICT_POLICY.now
policy_text kind = codes "default-src 'none'; frame-ancestors 'none'"

-- the header fields of each response
abbrev pub fields_for : Kind → List Header
fields_for kind =
    (codes "content-type", kind_text kind)
    ∷ (codes "x-content-type-options", codes "nosniff")
    ∷ (codes "content-security-policy", policy_text kind)
    ∷ (codes "cross-origin-resource-policy", codes "same-origin")
    ∷ (codes "cache-control", codes "no-store")
    ∷ (codes "allow", codes "GET, HEAD")
    ∷ []

-- it is this response; or memory was refused
abbrev pub IsReply : ℕ → Kind → List ℕ → Response → Type 0
IsReply status kind body r = IsResponse status (fields_for kind) body r ⊎ IsResponse 500 [] [] r

-- ---- what the daemon answered

abbrev pub IsUnanswered : Response → Type 0
IsUnanswered r = IsReply 503 kinds.Text (codes "no answer\n") r

-- it answered, or it didn't
abbrev pub IsHealth : Option (List ℕ) → Response → Type 0
IsHealth None r = IsUnanswered r
IsHealth (Some answer) r = IsReply 200 kinds.Text (codes "ok\n") r

-- what stands before the dot that ends an answer
abbrev pub samples_in : List ℕ → Option (List ℕ)
samples_in answer =
    if bytes_eq (drop (length answer - 2) answer) (codes ".\n") then Some (take (length answer - 2) answer) else None

-- these samples, with what each metric tells and its type in front of its own; or there are none
abbrev pub AreSamples : Option (List ℕ) → Response → Type 0
AreSamples None r = IsUnanswered r
AreSamples (Some samples) r = IsReply 200 kinds.Metrics (headed samples) r

-- the samples that the daemon told
abbrev pub AreMetrics : Option (List ℕ) → Response → Type 0
AreMetrics told r = AreSamples (option_and_then samples_in told) r

-- the rows of the table that the answer is; or there was no answer, or one that is no table
abbrev pub AreMembers : Option (List ℕ) → Response → Type 0
AreMembers None r = IsUnanswered r
AreMembers (Some answer) r =
    ((rows : List Row) × (answer ≡ table_text rows) × IsReply 200 kinds.Json (members_text rows) r)
    ⊎ (IsNoTable answer × IsUnanswered r)

-- a page about a verdict, as the shelf wrote it; or no file has the verdict, and behind that stands what the shelf
-- wrote against the files that it looked at; or memory was refused
abbrev pub IsVerdict : (Found → List ℕ → Type 0) → Response → Type 0
IsVerdict Tells r =
    ((text : List ℕ) × Tells finds.Page text × IsReply 200 kinds.Verdict text r)
    ⊎ ((text : List ℕ) × Tells finds.Nothing text × IsReply 404 kinds.Text (codes "no such verdict\n" ++ text) r)
    ⊎ IsResponse 500 [] [] r

-- ---- pages

-- what a page comes to, with what the shelf found of verdicts, whether it may show any, and the events that are kept
abbrev pub Serves : (Found → ℕ → ℕ → List ℕ → Type 0) → Bool → Page → Kept → Looked → Response → Looked → Type 0
Serves T is_open pages.Health kept old r new = Asks questions.List old new (λ told. IsHealth told r)
Serves T is_open pages.Metrics kept old r new = Asks questions.Stats old new (λ told. AreMetrics told r)
Serves T is_open pages.Members kept old r new = Asks questions.List old new (λ told. AreMembers told r)
Serves T is_open pages.Front kept old r new = AsksNothing old new × IsReply 200 kinds.Html FRONT_PAGE.now r
Serves T is_open (pages.Verdict member number) kept old r new =
    AsksNothing old new × IsVerdict (λ found text. T found member number text) r
Serves T is_open pages.Changes kept old r new =
    AsksNothing old new × IsReply 200 kinds.Json (changes_text is_open kept.lines) r
Serves T is_open (pages.Events number) kept old r new =
    AsksNothing old new × IsReply 200 kinds.Events (stream_text number kept) r
Serves T is_open pages.Misdirected kept old r new =
    AsksNothing old new × IsReply 421 kinds.Text (codes "no such host\n") r
Serves T is_open pages.Unknown kept old r new =
    AsksNothing old new × IsReply 404 kinds.Text (codes "no such page\n") r
Serves T is_open pages.Forbidden kept old r new =
    AsksNothing old new × IsReply 405 kinds.Text (codes "only GET and HEAD\n") r

-- ---- whether the connection stays

-- the same response with a field by which the connection is closed behind it; or memory was refused
abbrev pub Closes : Response → Response → Type 0
Closes plain r =
    ((r.status ≡ plain.status) × (fields_of r ≡ fields_of plain ++ (codes "connection", codes "close") ∷ [])
    × (r.body ≡ plain.body))
    ⊎ IsResponse 500 [] [] r

-- with all places taken the connection is closed behind the response, so that one of those who wait has its place
abbrev pub ClosesIf : Bool → Response → Response → Type 0
ClosesIf true plain r = Closes plain r
ClosesIf false plain r = r ≡ plain

-- ---- requests

-- what a request comes to, with all places taken or not; no event comes or goes by it
abbrev pub Answers : (Found → ℕ → ℕ → List ℕ → Type 0) → Bool → (List ℕ → Bool) → Bool → Kept → Looked →
    Request (List ℕ) → Response → Kept → Looked → Type 0
Answers T is_open is_name is_full kept old request r kept_new new =
    ((plain : Response) × Serves T is_open (page_asked is_name (head_of request)) kept old plain new
    × ClosesIf is_full plain r)
    × (kept_new ≡ kept)
