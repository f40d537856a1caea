-- What lines say is the same without the comments among them.
use Rattle.std.specs.Prelude.{is_some as is_told}
use Rattle.std.proofs.Common.{◌≡◌, ℕ, suc, ◌+◌, Bool, true, false, cond, List, [], ◌∷◌, ◌++◌, length, Option, Some}
use Rattle.std.proofs.Common.{None, Ok, refl, sym, ap, subst, ◌∙◌, arith}
use Rattle.std.specs.Prelude.{◌==◌, ◌||◌}
use Rattle.swim_text.specs.Lines.{bare}
use Rattle.swim_wire.specs.declared.messages.Version.{Version}
use Rattle.swim_history.specs.declared.rows.Row.{Row}
use Rattle.swim_script.specs.declared.arguments.OpenArguments.{OpenArguments}
use Rattle.swim_script.specs.declared.arguments.Opened.{Opened}
use Rattle.swim_script.specs.declared.commands.Command.{Command}
use Rattle.swim_script.specs.declared.commands.Command.TheVariants as commands
use Rattle.swim_script.specs.declared.commands.Draws.{Draws}
use Rattle.swim_script.specs.declared.commands.Stage.TheVariants.{Events}
use Rattle.swim_script.specs.declared.forms.Form.{Form}
use Rattle.swim_script.specs.Forms.{is_mark, form_of}
use Rattle.swim_script.specs.Headers.{Told, Head, is_event, stage_with, stage_told, stage_of, draws_with, command_in}
use Rattle.swim_script.specs.Headers.{read_with, read_after, said, head_then, head_of, setting_with, setting_in}
use Rattle.swim_script.specs.Headers.{version_with, limit_with, limit_in, chooser_in}
use Rattle.swim_journal.specs.Comments.{is_comment, uncommented}

-- ---- what headers tell

abbrev pub arguments_of : Option Opened → Option OpenArguments
arguments_of None = None
arguments_of (Some opened) = Some opened.arguments

-- headers tell the same, whichever line opens them
pub record IsToldAlike (a b : Told) : Type 0 where
  pub opened : arguments_of a.opened ≡ arguments_of b.opened
  pub rows : a.rows ≡ b.rows
  pub orders : a.orders ≡ b.orders
  pub places : a.places ≡ b.places
  pub seed : a.seed ≡ b.seed
  pub wire : a.wire ≡ b.wire

told_self : (a : Told) → IsToldAlike a a
told_self a = record { opened = refl; rows = refl; orders = refl; places = refl; seed = refl; wire = refl }

pub told_back : (a b : Told) → IsToldAlike a b → IsToldAlike b a
told_back a b t = record {
  opened = sym t.opened;
  rows = sym t.rows;
  orders = sym t.orders;
  places = sym t.places;
  seed = sym t.seed;
  wire = sym t.wire;
}

pub setting_alike : (a b : Told) → IsToldAlike a b → setting_in a ≡ setting_in b
setting_alike a b t =
    by a.opened b.opened t.opened
    ∙ ap (λ (rows : List Row). setting_with b.opened rows (version_with a.wire)) t.rows
    ∙ ap (λ (wire : Option Version). setting_with b.opened b.rows (version_with wire)) t.wire
  where
    by : (x y : Option Opened) → arguments_of x ≡ arguments_of y →
        setting_with x a.rows (version_with a.wire) ≡ setting_with y a.rows (version_with a.wire)
    by None None e = refl
    by None (Some y) e = absurd (cc e)
    by (Some x) None e = absurd (cc e)
    by (Some x) (Some y) e =
        let same : x.arguments ≡ y.arguments = cc e in
        ap (λ (g : OpenArguments).
        setting_with (Some (record { line = 0; arguments = g })) a.rows (version_with a.wire)) same

pub limit_alike : (a b : Told) → IsToldAlike a b → limit_in a ≡ limit_in b
limit_alike a b t = by a.opened b.opened t.opened
  where
    by : (x y : Option Opened) → arguments_of x ≡ arguments_of y → limit_with x ≡ limit_with y
    by None None e = refl
    by None (Some y) e = absurd (cc e)
    by (Some x) None e = absurd (cc e)
    by (Some x) (Some y) e =
        let same : x.arguments ≡ y.arguments = cc e in ap (λ (g : OpenArguments). g.limit) same

pub chooser_alike : (a b : Told) → IsToldAlike a b → chooser_in a ≡ chooser_in b
chooser_alike a b t = rw (t.orders, t.places, t.seed) refl

pub stage_alike : (a b : Told) → IsToldAlike a b → stage_told a ≡ stage_told b
stage_alike a b t =
    by a.opened b.opened t.opened
    ∙ rw (t.orders, t.places, t.seed, t.wire) refl
  where
    draws : Draws
    draws = draws_with a.orders a.places a.seed

    by : (x y : Option Opened) → arguments_of x ≡ arguments_of y →
        stage_with x draws (is_told a.wire) ≡ stage_with y draws (is_told a.wire)
    by None None e = refl
    by None (Some y) e = absurd (cc e)
    by (Some x) None e = absurd (cc e)
    by (Some x) (Some y) e = refl

-- ---- lines that say the same

pub record AreAlike (a b : List (List ℕ)) : Type 0 where
  pub first : (length a == 0) ≡ (length b == 0)
  pub form : form_of a ≡ form_of b
  pub begun : (head_of a).begun ≡ (head_of b).begun
  pub told : IsToldAlike (head_of a).told (head_of b).told

mark_alike : (a b : List (List ℕ)) (line : List ℕ) → AreAlike a b → is_mark (length a) line ≡ is_mark (length b) line
mark_alike a b line alike = rw (alike.first) refl

stages_alike : (a b : List (List ℕ)) → AreAlike a b → stage_of (head_of a) ≡ stage_of (head_of b)
stages_alike a b alike =
    ap (λ (begun : Bool). cond begun Events (stage_told (head_of a).told)) alike.begun
    ∙ ap (cond (head_of b).begun Events) (stage_alike (head_of a).told (head_of b).told alike.told)

pub read_alike : (a b : List (List ℕ)) (line : List ℕ) → AreAlike a b → read_after a line ≡ read_after b line
read_alike a b line alike =
    rw (mark_alike a b (bare line) alike, alike.form, stages_alike a b alike) refl

pub said_alike : (a b : List (List ℕ)) (line : List ℕ) → AreAlike a b → said a line ≡ said b line
said_alike a b line alike = ap command_in (read_alike a b line alike)

told_more : (n m : ℕ) (a b : Head) (o : Option Command) → IsToldAlike a.told b.told →
    IsToldAlike (head_then n o a).told (head_then m o b).told
told_more n m a b None t = t
told_more n m a b (Some (commands.Open arguments)) t =
    record { opened = refl; rows = t.rows; orders = t.orders; places = t.places; seed = t.seed; wire = t.wire }
told_more n m a b (Some (commands.Row row)) t = record {
  opened = t.opened;
  rows = rw (t.rows) refl;
  orders = t.orders;
  places = t.places;
  seed = t.seed;
  wire = t.wire;
}
told_more n m a b (Some (commands.Order order)) t = record {
  opened = t.opened;
  rows = t.rows;
  orders = rw (t.orders) refl;
  places = t.places;
  seed = t.seed;
  wire = t.wire;
}
told_more n m a b (Some (commands.Place place)) t = record {
  opened = t.opened;
  rows = t.rows;
  orders = t.orders;
  places = rw (t.places) refl;
  seed = t.seed;
  wire = t.wire;
}
told_more n m a b (Some (commands.Seed key life)) t =
    record { opened = t.opened; rows = t.rows; orders = t.orders; places = t.places; seed = refl; wire = t.wire }
told_more n m a b (Some (commands.Wire version)) t =
    record { opened = t.opened; rows = t.rows; orders = t.orders; places = t.places; seed = t.seed; wire = refl }
told_more n m a b (Some command) t = t

begun_more : (n m : ℕ) (a b : Head) (o : Option Command) → a.begun ≡ b.begun →
    (head_then n o a).begun ≡ (head_then m o b).begun
begun_more n m a b None e = e
begun_more n m a b (Some command) e = ap (λ (begun : Bool). is_event command || begun) e

later : (n : ℕ) → (suc n == 0) ≡ false
later n = grind arith

-- behind each a line more
both_more : (a b : List (List ℕ)) (line : List ℕ) → AreAlike a b → AreAlike (line ∷ a) (line ∷ b)
both_more a b line alike =
    let says = said_alike a b line alike in
    record {
      first = later (length a) ∙ sym (later (length b));
      form = rw (mark_alike a b (bare line) alike, alike.form) refl;
      begun = begun_more (length a + 1) (length b + 1) (head_of a) (head_of b) (said a line) alike.begun ∙
          ap (λ (o : Option Command). (head_then (length b + 1) o (head_of b)).begun) says;
      told =
          subst (λ (o : Option Command).
          IsToldAlike (head_then (length a + 1) (said a line) (head_of a)).told
          (head_then (length b + 1) o (head_of b)).told) says
          (told_more (length a + 1) (length b + 1) (head_of a) (head_of b) (said a line) alike.told);
    }

-- ---- a comment

skipped : (form : Form) (head : Head) (before : List (List ℕ)) (line : List ℕ) → is_comment before line ≡ true →
    read_with (is_mark (length before) (bare line)) form head line ≡ Ok None
skipped form head [] line is = absurd (cc is)
skipped form head (last ∷ before) [] is = absurd (cc is)
skipped form head (last ∷ before) (first ∷ others) is =
    let e : first ≡ 35 = grind arith in
    let n : (suc (length before) == 0) ≡ false = later (length before) in
    rw (n, e) refl

pub comment_read : (before : List (List ℕ)) (line : List ℕ) → is_comment before line ≡ true →
    read_after before line ≡ Ok None
comment_read before line is = skipped (form_of before) (head_of before) before line is

pub comment_said : (before : List (List ℕ)) (line : List ℕ) → is_comment before line ≡ true → said before line ≡ None
comment_said before line is = ap command_in (comment_read before line is)

behind_one : (before : List (List ℕ)) (line : List ℕ) → is_comment before line ≡ true → (length before == 0) ≡ false
behind_one [] line is = absurd (cc is)
behind_one (last ∷ before) line is = later (length before)

comment_more : (a b : List (List ℕ)) (line : List ℕ) → is_comment a line ≡ true → AreAlike a b → AreAlike (line ∷ a) b
comment_more a b line is alike =
    let none = comment_said a line is in
    let behind = behind_one a line is in
    record {
      first = later (length a) ∙ sym behind ∙ alike.first;
      form = rw behind alike.form;
      begun = ap (λ (o : Option Command). (head_then (length a + 1) o (head_of a)).begun) none ∙ alike.begun;
      told = rw none alike.told;
    }

-- ---- without comments

pub uncommented_alike : (lines : List (List ℕ)) → AreAlike lines (uncommented lines)
uncommented_alike [] = record { first = refl; form = refl; begun = refl; told = told_self (head_of []).told }
uncommented_alike (line ∷ before) = by (is_comment before line) refl (uncommented_alike before)
  where
    by : (c : Bool) → is_comment before line ≡ c → AreAlike before (uncommented before) →
        AreAlike (line ∷ before) (cond c (uncommented before) (line ∷ uncommented before))
    by true is alike = comment_more before (uncommented before) line is alike
    by false is alike = both_more before (uncommented before) line alike

-- a line is a comment behind both, or behind none
pub is_comment_alike : (a b : List (List ℕ)) (line : List ℕ) → (length a == 0) ≡ (length b == 0) →
    is_comment a line ≡ is_comment b line
is_comment_alike [] [] line e = refl
is_comment_alike [] (y ∷ b) line e = let bad : true ≡ false = e ∙ later (length b) in absurd (cc bad)
is_comment_alike (x ∷ a) [] line e = let bad : true ≡ false = sym e ∙ later (length a) in absurd (cc bad)
is_comment_alike (x ∷ a) (y ∷ b) [] e = refl
is_comment_alike (x ∷ a) (y ∷ b) (first ∷ others) e = refl

-- lines behind which stands one that is no comment, and others
pub record IsSplit (lines : List (List ℕ)) (piece : List ℕ) (before : List (List ℕ)) : Type 0 where
  pub front : List (List ℕ)
  pub is : lines ≡ front ++ piece ∷ before

pub uncommented_split : (front : List (List ℕ)) (piece : List ℕ) (before : List (List ℕ)) →
    is_comment before piece ≡ false → IsSplit (uncommented (front ++ piece ∷ before)) piece (uncommented before)
uncommented_split [] piece before plain =
    record { front = []; is = ap (λ (c : Bool). cond c (uncommented before) (piece ∷ uncommented before)) plain }
uncommented_split (line ∷ front) piece before plain =
    by (is_comment (front ++ piece ∷ before) line) (uncommented_split front piece before plain)
  where
    older : List (List ℕ)
    older = uncommented (front ++ piece ∷ before)

    by : (c : Bool) → IsSplit older piece (uncommented before) →
        IsSplit (cond c older (line ∷ older)) piece (uncommented before)
    by true split = split
    by false split = record { front = line ∷ split.front; is = ap (λ l. line ∷ l) split.is }
