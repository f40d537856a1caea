-- Which page a request asks for.
use Rattle.std.specs.Prelude.{ℕ, ◌-◌, ◌^◌, Bool, false, not, ◌&&◌, ◌||◌, List, [], Option, Some, None, is_some, codes}
use Rattle.std.specs.Prelude.{if◌then◌else◌, String, string_bytes}
use Rattle.std.specs.List.{list_any}
use Rattle.std.specs.Option.{unwrap_or}
use Rattle.std.specs.Str.{bytes_eq, str_eq_ignore_ascii_case}
use Rattle.swim_text.specs.Numbers.{number_of}
use Rattle.swim_text.specs.Parts.{cut}
use Rattle.swim_wire.specs.Ids.{id_of}
use Rattle.http.specs.declared.request.Parts.{Parts}
use Rattle.http_header.specs.FieldValue.{FieldValue}
use Rattle.http_header.specs.HeaderMap.{get}
use Rattle.http_uri.specs.Uri.{uri_authority, uri_path}
use Rattle.swim_web.specs.declared.pages.Page.{Page}
use Rattle.swim_web.specs.declared.pages.Page.TheVariants.{Front, Health, Metrics, Members, Events, Unknown, Forbidden}
use Rattle.swim_web.specs.declared.pages.Page.TheVariants.{Changes, Misdirected, Verdict}

abbrev pub verdict_by : Option ℕ → Option ℕ → Page
verdict_by (Some member) (Some number) = Verdict member number
verdict_by member number = Unknown

abbrev pub numbers_in : Option (List ℕ × List ℕ) → Page
numbers_in None = Unknown
numbers_in (Some parts) = verdict_by (id_of parts.0) (number_of (2 ^ 64 - 1) parts.1)

-- the verdict on a member at the end of a period, ID/PERIOD
abbrev pub verdict_named : List ℕ → Page
verdict_named name = numbers_in (cut 47 name)

abbrev pub in_folder : List ℕ → Option (List ℕ × List ℕ) → Option (List ℕ)
in_folder root None = None
in_folder root (Some parts) =
    if bytes_eq root [] && bytes_eq parts.0 (codes "verdicts") then Some parts.1 else None

abbrev pub below_root : Option (List ℕ × List ℕ) → Option (List ℕ)
below_root None = None
below_root (Some parts) = in_folder parts.0 (cut 47 parts.1)

-- what is behind /verdicts/ in a path
abbrev pub rest_of : List ℕ → Option (List ℕ)
rest_of path = below_root (cut 47 path)

abbrev pub named_if : Option (List ℕ) → Page
named_if None = Unknown
named_if (Some name) = verdict_named name

-- the page at a path /verdicts/ID/PERIOD
abbrev pub verdict_at : List ℕ → Page
verdict_at path = named_if (rest_of path)

-- the page at a path, for whoever has seen the events up to some number
abbrev pub page_at : List ℕ → ℕ → Page
page_at path seen =
    if bytes_eq path (codes "/") then Front
    else (if bytes_eq path (codes "/healthz") then Health
    else (if bytes_eq path (codes "/metrics") then Metrics
    else (if bytes_eq path (codes "/members.json") then Members
    else (if bytes_eq path (codes "/verdicts.json") then Changes
    else (if bytes_eq path (codes "/events") then Events seen else verdict_at path)))))

abbrev pub page_by : List ℕ → List ℕ → ℕ → Page
page_by method path seen =
    if bytes_eq method (codes "GET") || bytes_eq method (codes "HEAD") then page_at path seen else Forbidden

-- a host is one of these names, whatever letters of it are capitals
abbrev pub is_listed : {Z : Type 0} → List (String Z) → List ℕ → Bool
is_listed names host = list_any (λ name. str_eq_ignore_ascii_case (string_bytes name) host) names

-- there is a host, and it is one of ours
abbrev pub is_ours : (List ℕ → Bool) → Option FieldValue → Bool
is_ours is_name None = false
is_ours is_name (Some host) = is_name host.bytes

-- the target is a path alone, and the host is one of ours: a page of another site whose name was made to lead here
-- learns nothing
abbrev pub is_known : (List ℕ → Bool) → Parts → Bool
is_known is_name head = not (is_some (uri_authority head.uri)) && is_ours is_name (get head.headers (codes "host"))

-- the number of the last event that was seen; 0 where the field is left out or is none
abbrev pub seen_in : Option FieldValue → ℕ
seen_in None = 0
seen_in (Some value) = unwrap_or (number_of (2 ^ 64 - 1) value.bytes) 0

abbrev pub page_asked : (List ℕ → Bool) → Parts → Page
page_asked is_name head =
    if is_known is_name head
    then page_by head.method (uri_path head.uri) (seen_in (get head.headers (codes "last-event-id")))
    else Misdirected
