-- How the reader of a control line goes on from byte to byte, and how a line is made of words.
use Rattle.std.proofs.Common.{◌≡◌, ℕ, zero, suc, ◌<◌, ◌==◌, ◌||◌, Bool, true, false, List, [], ◌∷◌, ◌++◌, length, take}
use Rattle.std.proofs.Common.{drop}
use Rattle.std.proofs.Common.{◌+◌, ◌≤◌, Bor, slice_index_or}
use Rattle.std.proofs.Common.{Option, Some, None, refl, sym, ap, ◌∙◌, append_assoc, append-nil, arith, length-append}
use Rattle.std.proofs.lemmas.Grind.{flat_map-append}
use Rattle.std.proofs.lemmas.List.{length-take}
use Rattle.std.proofs.lemmas.List.Folds.{list_any-append}
use Rattle.std.specs.List.{flat_map}
use Rattle.std.specs.Io.KnownBytes.{Consumes, IsAtEnd, Keeps}
use Rattle.swim_text.specs.Lines.{has_feed}
use Rattle.swim_commands.specs.Asking.{IsAll, Reads, end_met, joined}
use Rattle.swim_commands.proofs.Lines.{texts_of, next_word}
use Rattle.swim_commands.specs.declared.control_lines.NextLine.{NextLine}
use Rattle.swim_commands.specs.declared.control_lines.NextLine.TheVariants.{Line, Over, Fault}

pub take_twice : (n : ℕ) (xs ys : List ℕ) → take n (take n xs ++ ys) ≡ take n (xs ++ ys)
take_twice zero xs ys = refl
take_twice (suc n) [] ys = refl
take_twice (suc n) (x ∷ xs) ys = ap (λ l. x ∷ l) (take_twice n xs ys)

consumes_more : (o m n : Option (List ℕ)) (xs ys : List ℕ) → Consumes o m xs → Consumes m n ys → Consumes o n (xs ++ ys)
consumes_more None m n xs ys p q = tt
consumes_more (Some x) None n xs ys p q = absurd p
consumes_more (Some x) (Some y) None xs ys p q = absurd q
consumes_more (Some x) (Some y) (Some z) xs ys p q = p ∙ ap (λ l. xs ++ l) q ∙ sym (append_assoc xs ys z)

consumes_kept : (o m n : Option (List ℕ)) (xs : List ℕ) → Consumes o m xs → Keeps m n → Consumes o n xs
consumes_kept None m n xs p q = tt
consumes_kept (Some x) None n xs p q = absurd p
consumes_kept (Some x) (Some y) None xs p q = absurd q
consumes_kept (Some x) (Some y) (Some z) xs p q = p ∙ ap (λ l. xs ++ l) (sym q)

consumes_self : (o : Option (List ℕ)) → Consumes o o []
consumes_self None = tt
consumes_self (Some xs) = refl

-- what was taken up to the end was all
pub all_taken : (o m : Option (List ℕ)) (text : List ℕ) → Consumes o m text → IsAtEnd m → IsAll o text
all_taken None m text c e = tt
all_taken (Some x) None text c e = absurd c
all_taken (Some x) (Some y) text c e = c ∙ ap (λ l. text ++ l) e ∙ append-nil text

-- and where that was nothing it was the end already
end_before : (o m : Option (List ℕ)) (text : List ℕ) → Consumes o m text → text ≡ [] → IsAtEnd m → IsAtEnd o
end_before None m text c none e = tt
end_before (Some x) None text c none e = absurd c
end_before (Some x) (Some y) text c none e = c ∙ ap (λ l. l ++ y) none ∙ e

-- some bytes of a line were taken, and what is sent of them stands in the line
pub record Taking (old new : Option (List ℕ)) (line : List ℕ) (is_begun : Bool) : Type 0 where
  pub text : List ℕ
  pub taken : Consumes old new text
  pub one : has_feed text ≡ false
  pub kept : line ≡ take 129 text
  pub begun : is_begun ≡ true → 0 < length text
  pub unbegun : is_begun ≡ false → text ≡ []

pub begins : (o : Option (List ℕ)) (line : List ℕ) → line ≡ [] → Taking o o line false
begins o line e = record {
  text = [];
  taken = consumes_self o;
  one = refl;
  kept = e;
  begun = λ b. absurd cc;
  unbegun = λ b. refl;
}

pub goes_further : (o m n : Option (List ℕ)) (line longer : List ℕ) (byte : ℕ) (is_begun : Bool) →
    Taking o m line is_begun →
    Consumes m n (byte ∷ []) → (byte == 10) ≡ false → longer ≡ take 129 (line ++ byte ∷ []) → Taking o n longer true
goes_further o m n line longer byte is_begun t c e k = record {
  text = t.text ++ byte ∷ [];
  taken = consumes_more o m n t.text (byte ∷ []) t.taken c;
  one = list_any-append (λ b. b == 10) t.text (byte ∷ []) ∙ by (has_feed t.text) (byte == 10) t.one e;
  kept = k ∙ ap (λ l. take 129 (l ++ byte ∷ [])) t.kept ∙ take_twice 129 t.text (byte ∷ []);
  begun = λ b. omega (arith, length-append t.text (byte ∷ []));
  unbegun = λ b. absurd cc;
}
  where
    by : (a b : Bool) → a ≡ false → b ≡ false → (a || (b || false)) ≡ false
    by false false p q = refl
    by true b p q = absurd cc
    by false true p q = absurd cc

pub line_fits : (o m : Option (List ℕ)) (line : List ℕ) (is_begun : Bool) → Taking o m line is_begun → length line < 130
line_fits o m line is_begun t = omega (arith, ap length t.kept, length-take 129 t.text)

pub line_within : (o m : Option (List ℕ)) (line : List ℕ) (is_begun : Bool) → Taking o m line is_begun →
    length line ≤ 129
line_within o m line is_begun t = omega (arith, ap length t.kept, length-take 129 t.text)

pub ends_by_feed : (o m n : Option (List ℕ)) (line longer : List ℕ) (byte : ℕ) (is_begun : Bool) →
    Taking o m line is_begun →
    Consumes m n (byte ∷ []) → byte ≡ 10 → longer ≡ line ++ 10 ∷ [] → Reads Line o n longer
ends_by_feed o m n line longer byte is_begun t c feed k = (
  record { text = t.text; is_ended = true },
  record {
    taken = consumes_more o m n t.text (10 ∷ []) t.taken (rw (← feed) c);
    one = t.one;
    some = omega (arith, length-append t.text (10 ∷ []));
    last = λ e. absurd cc;
  },
  k ∙ ap (λ l. l ++ 10 ∷ []) t.kept,
)

pub ends_within : (o m n : Option (List ℕ)) (line : List ℕ) → Taking o m line true → IsAtEnd m → Keeps m n →
    Reads Line o n line
ends_within o m n line t e k = (
  record { text = t.text; is_ended = false },
  record {
    taken = rw (append-nil t.text) (consumes_kept o m n t.text t.taken k);
    one = t.one;
    some = rw (append-nil t.text) (t.begun refl);
    last = λ b. rw (append-nil t.text) (all_taken o m t.text t.taken e);
  },
  t.kept ∙ sym (append-nil (take 129 t.text)),
)

pub ends_between : (o m n : Option (List ℕ)) (line : List ℕ) → Taking o m line false → IsAtEnd m → Keeps m n →
    Reads Over o n line
ends_between o m n line t e k =
    (end_before o m t.text t.taken (t.unbegun refl) e, rw (← t.unbegun refl) (consumes_kept o m n t.text t.taken k))

pub ends_by_end : (o m n : Option (List ℕ)) (line : List ℕ) (is_begun : Bool) (met : NextLine) →
    Taking o m line is_begun → IsAtEnd m →
    Keeps m n → met ≡ end_met is_begun → Reads met o n line
ends_by_end o m n line true met t e k is = rw is (ends_within o m n line t e k)
ends_by_end o m n line false met t e k is = rw is (ends_between o m n line t e k)

pub ends_by_fault : (o m n : Option (List ℕ)) (line : List ℕ) (is_begun : Bool) → Taking o m line is_begun → Keeps m n →
    Reads Fault o n line
ends_by_fault o m n line is_begun t k = (t.text, consumes_kept o m n t.text t.taken k, t.one)

-- ---- words

-- a word more, with its space
pub one_more_word : (front : List (List ℕ)) (word old begun new : List ℕ) →
    old ≡ take 130 (flat_map (λ word. 32 ∷ word) front) → begun ≡ take 130 (old ++ 32 ∷ []) →
    new ≡ take 130 (begun ++ word) →
    new ≡ take 130 (flat_map (λ word. 32 ∷ word) (front ++ word ∷ []))
one_more_word front word old begun new o b n =
    let f = flat_map (λ (w : List ℕ). 32 ∷ w) front in
    n ∙ ap (λ l. take 130 (l ++ word)) (b ∙ ap (λ l. take 130 (l ++ 32 ∷ [])) o ∙ take_twice 130 f (32 ∷ []))
    ∙ take_twice 130 (f ++ 32 ∷ []) word
    ∙ ap (take 130) (append_assoc f (32 ∷ []) word ∙ ap (λ l. f ++ l) (sym (append-nil (32 ∷ word)))
    ∙ sym (flat_map-append (λ (w : List ℕ). 32 ∷ w) front (word ∷ [])))

pub taken_within : (most : ℕ) (xs line : List ℕ) → line ≡ take most xs → length line ≤ most
taken_within most xs line e = omega (arith, ap length e, length-take most xs)

-- the next of some words
pub spaced_more : (words : List (Bor (List ℕ))) (index : ℕ) (default : Bor (List ℕ)) (text old begun new : List ℕ) →
    old ≡ take 130 (flat_map (λ word. 32 ∷ word) (texts_of (take index words))) →
    index < length words → text ≡ (slice_index_or words index default).now →
    begun ≡ take 130 (old ++ 32 ∷ []) → new ≡ take 130 (begun ++ text) →
    new ≡ take 130 (flat_map (λ word. 32 ∷ word) (texts_of (take (index + 1) words)))
spaced_more words index default text old begun new o within at b n =
    one_more_word (texts_of (take index words)) text old begun new o b n
    ∙ ap (λ l. take 130 (flat_map (λ (w : List ℕ). 32 ∷ w) l)) (sym (next_word words index default text within at))

-- no word, so the line is empty
pub no_words : (words : List (List ℕ)) (text line : List ℕ) → text ≡ take 130 (flat_map (λ word. 32 ∷ word) words) →
    text ≡ [] →
    line ≡ [] → line ≡ take 129 (joined words)
no_words [] text line t none e = e
no_words (word ∷ words) text line t none e = absurd cc

drop_first : (xs : List ℕ) → drop 1 (take 130 xs) ≡ take 129 (drop 1 xs)
drop_first [] = refl
drop_first (x ∷ xs) = refl

-- the words are joined where the first space is left out
pub words_joined : (words : List (List ℕ)) (text rest line : List ℕ) (space : ℕ) →
    text ≡ take 130 (flat_map (λ word. 32 ∷ word) words) → text ≡ space ∷ rest → line ≡ take 129 rest →
    line ≡ take 129 (joined words)
words_joined words text rest line space t split l =
    let f = flat_map (λ (w : List ℕ). 32 ∷ w) words in
    let rest_is : rest ≡ take 129 (drop 1 f) = ap (drop 1) (sym split ∙ t) ∙ drop_first f in
    l ∙ ap (take 129) (rest_is ∙ sym (append-nil (take 129 (drop 1 f)))) ∙ take_twice 129 (drop 1 f) []
    ∙ ap (take 129) (append-nil (drop 1 f))
