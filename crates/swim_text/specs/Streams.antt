-- What reads and writes do to the bytes that a source has left and a sink was given, where those are known.
use Rattle.std.specs.Prelude.{◌≡◌, ℕ, ◌+◌, ◌-◌, ◌^◌, min, Bool, true, false, List, [], ◌∷◌, ◌++◌, take, drop, Option}
use Rattle.std.specs.Prelude.{Some, None, refl}
use Rattle.std.specs.Io.KnownBytes.{Keeps, Appends, Consumes, IsAtEnd, append_known}
use Rattle.std.proofs.Common.{sym, ap, ◌∙◌, append_assoc, append-nil, take-append-drop}
use Rattle.swim_text.specs.declared.streams.Byte.{Byte}
use Rattle.swim_text.specs.declared.streams.Byte.TheVariants.{One, End, Fault}

-- what one read does to the bytes left
abbrev pub Gives : Option (List ℕ) → Option (List ℕ) → Byte → Type 0
Gives old new (One b) = Consumes old new (b ∷ [])
Gives old new End = IsAtEnd old × Keeps old new
Gives old new Fault = Keeps old new

-- the bytes given so far, after a read
abbrev pub given_then : Option (List ℕ) → Byte → Option (List ℕ)
given_then None byte = None
given_then (Some bytes) (One b) = Some (bytes ++ b ∷ [])
given_then (Some bytes) End = Some bytes
given_then (Some bytes) Fault = Some bytes

-- a failure more; the count stops at 2^64-1
abbrev pub one_more : ℕ → ℕ
one_more n = min (n + 1) (2 ^ 64 - 1)

-- the failures after a read
abbrev pub failures_then : ℕ → Byte → ℕ
failures_then n (One b) = n
failures_then n End = n
failures_then n Fault = one_more n

-- the failures after a write that was done, or was not
abbrev pub failures_if : ℕ → Bool → ℕ
failures_if n true = n
failures_if n false = one_more n

-- a front of the text was written
pub record PutsFront (old new : Option (List ℕ)) (text : List ℕ) : Type 0 where
  pub front : List ℕ
  pub unput : List ℕ
  pub cut : text ≡ front ++ unput
  pub grows : Appends old new front

-- what a write does to the bytes written: all of the text, or at a failure some front of it
abbrev pub Puts : Option (List ℕ) → Option (List ℕ) → List ℕ → Bool → Type 0
Puts old new text true = Appends old new text
Puts old new text false = PutsFront old new text

-- ---- laws

pub keeps_self : (m : Option (List ℕ)) → Keeps m m
keeps_self None = tt
keeps_self (Some x) = refl

pub keeps_both : (o m n : Option (List ℕ)) → Keeps o m → Keeps m n → Keeps o n
keeps_both None m n p q = tt
keeps_both (Some x) None n p q = absurd p
keeps_both (Some x) (Some y) None p q = absurd q
keeps_both (Some x) (Some y) (Some z) p q = q ∙ p

pub append_none : (m : Option (List ℕ)) → m ≡ append_known m []
append_none None = refl
append_none (Some x) = ap Some (sym (append-nil x))

pub appends_none : (o n : Option (List ℕ)) → Keeps o n → Appends o n []
appends_none None n p = tt
appends_none (Some x) None p = absurd p
appends_none (Some x) (Some y) p = p ∙ sym (append-nil x)

pub appends_both : (o m n : Option (List ℕ)) (xs ys : List ℕ) → Appends o m xs → Appends m n ys → Appends o n (xs ++ ys)
appends_both None m n xs ys p q = tt
appends_both (Some x) None n xs ys p q = absurd p
appends_both (Some x) (Some y) None xs ys p q = absurd q
appends_both (Some x) (Some y) (Some z) xs ys p q = q ∙ ap (λ l. l ++ ys) p ∙ append_assoc x xs ys

pub kept_appends : (o m n : Option (List ℕ)) (xs : List ℕ) → Keeps o m → Appends m n xs → Appends o n xs
kept_appends None m n xs p q = tt
kept_appends (Some x) None n xs p q = absurd p
kept_appends (Some x) (Some y) None xs p q = absurd q
kept_appends (Some x) (Some y) (Some z) xs p q = q ∙ ap (λ l. l ++ xs) p

pub appends_kept : (o m n : Option (List ℕ)) (xs : List ℕ) → Appends o m xs → Keeps m n → Appends o n xs
appends_kept None m n xs p q = tt
appends_kept (Some x) None n xs p q = absurd p
appends_kept (Some x) (Some y) None xs p q = absurd q
appends_kept (Some x) (Some y) (Some z) xs p q = q ∙ p

pub kept_consumes : (o m n : Option (List ℕ)) (xs : List ℕ) → Keeps o m → Consumes m n xs → Consumes o n xs
kept_consumes None m n xs p q = tt
kept_consumes (Some x) None n xs p q = absurd p
kept_consumes (Some x) (Some y) None xs p q = absurd q
kept_consumes (Some x) (Some y) (Some z) xs p q = sym p ∙ q

-- one text written, and then another: all of both, or a front of both together
pub puts_then : (o m n : Option (List ℕ)) (xs ys : List ℕ) (r : Bool) → Puts o m xs true → Puts m n ys r →
    Puts o n (xs ++ ys) r
puts_then o m n xs ys true p q = appends_both o m n xs ys p q
puts_then o m n xs ys false p q = record {
  front = xs ++ q.front;
  unput = q.unput;
  cut = ap (λ l. xs ++ l) q.cut ∙ sym (append_assoc xs q.front q.unput);
  grows = appends_both o m n xs q.front p q.grows;
}

-- the first of two texts failed
pub puts_less : (o n : Option (List ℕ)) (xs ys : List ℕ) → Puts o n xs false → Puts o n (xs ++ ys) false
puts_less o n xs ys p = record {
  front = p.front;
  unput = p.unput ++ ys;
  cut = ap (λ l. l ++ ys) p.cut ∙ append_assoc p.front p.unput ys;
  grows = p.grows;
}

pub kept_puts : (o m n : Option (List ℕ)) (xs : List ℕ) (r : Bool) → Keeps o m → Puts m n xs r → Puts o n xs r
kept_puts o m n xs true p q = kept_appends o m n xs p q
kept_puts o m n xs false p q = record {
  front = q.front;
  unput = q.unput;
  cut = q.cut;
  grows = kept_appends o m n q.front p q.grows;
}

pub puts_kept : (o m n : Option (List ℕ)) (xs : List ℕ) (r : Bool) → Puts o m xs r → Keeps m n → Puts o n xs r
puts_kept o m n xs true p q = appends_kept o m n xs p q
puts_kept o m n xs false p q = record {
  front = p.front;
  unput = p.unput;
  cut = p.cut;
  grows = appends_kept o m n p.front p.grows q;
}

-- a write that failed after so many bytes
pub front_put : (o m n : Option (List ℕ)) (text : List ℕ) (count : ℕ) → Appends o m (take count text) → Keeps m n →
    PutsFront o n text
front_put o m n text count p q = record {
  front = take count text;
  unput = drop count text;
  cut = sym (take-append-drop count text);
  grows = appends_kept o m n (take count text) p q;
}
