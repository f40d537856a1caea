-- Files that were examined so far.
use Rattle.std.proofs.Common.{◌≡◌, ◌↔◌, ℕ, ◌+◌, ◌<◌, List, [], ◌∷◌, ◌++◌, map, take, reverse, length, Bor, refl, sym}
use Rattle.std.proofs.Common.{subst, ap, ◌∙◌, slice_index_or, append_assoc, append-nil, arith}
use Rattle.std.specs.List.{AllByRecursion}
use Rattle.std.proofs.lemmas.List.{map-append, map_more, reverse-append}
use Rattle.swim_evidence.specs.declared.sequences.Seen.{Seen}
use Rattle.swim_evidence.specs.declared.sequences.Sequence.{Sequence}
use Rattle.swim_evidence.specs.declared.verdicts.Standing.{Standing}
use Rattle.swim_evidence.specs.declared.verdicts.Standing.TheVariants.{Sound, Starved, Accused}
use Rattle.swim_evidence.specs.Sequences.{AreGood, IsSequence, IsWorst}
use Rattle.swimsim.specs.Sequences.{status_of}
use Rattle.swimsim.specs.Sightings.{AreExamined, Examines, Sees, Sighting, paths_of, seen_in, sighting}

-- the files of these paths were examined, each once, in order, and no other; that is the sequence of what was seen
pub record AreSighted (old new : List Sighting) (paths : List (List ℕ)) (s : Sequence) : Type 0 where
  pub files : List Sighting
  pub more : new ≡ old ++ files
  pub are : paths_of files ≡ paths
  pub sees : AllByRecursion (λ (f : Sighting). Sees f.played f.seen) files
  pub sequence : IsSequence (seen_in files) s

pub none_sighted : (old : List Sighting) (s : Sequence) → IsSequence [] s → AreSighted old old [] s
none_sighted old s is = record { files = []; more = sym (append-nil old); are = refl; sees = tt; sequence = is }

each_more : {A : Type 0} (P : A → Type 0) (xs : List A) (x : A) → AllByRecursion P xs → P x →
    AllByRecursion P (xs ++ x ∷ [])
each_more P [] x all is = (is, tt)
each_more P (y ∷ ys) x all is = (all.0, each_more P ys x all.1 is)

seen_more : (files : List Sighting) (f : Sighting) → seen_in (files ++ f ∷ []) ≡ f.seen ∷ seen_in files
seen_more files f =
    ap reverse (map-append (λ (f : Sighting). f.seen) files (f ∷ []))
    ∙ reverse-append (map (λ (f : Sighting). f.seen) files) (f.seen ∷ [])

-- one file more
pub sighted_next : (old mid new : List Sighting) (paths : List (Bor (List ℕ))) (index : ℕ) (default : Bor (List ℕ))
    (s t : Sequence) (now : Seen) → AreSighted old mid (map (λ path. path.now) (take index paths)) s →
    index < length paths → Examines mid (slice_index_or paths index default).now now new →
    ((seen : List Seen) → IsSequence seen s → IsSequence (now ∷ seen) t) →
    AreSighted old new (map (λ path. path.now) (take (index + 1) paths)) t
sighted_next old mid new paths index default s t now known within examines goes =
    let path = (slice_index_or paths index default).now in
    let f = sighting path examines.played now in
    record {
      files = known.files ++ f ∷ [];
      more = examines.more ∙ (ap (λ l. l ++ f ∷ []) known.more ∙ append_assoc old known.files (f ∷ []));
      are = map-append (λ (f : Sighting). f.path) known.files (f ∷ [])
          ∙ (ap (λ l. l ++ path ∷ []) known.are
          ∙ sym (map_more (λ (p : Bor (List ℕ)). p.now) paths index default within));
      sees = each_more (λ (f : Sighting). Sees f.played f.seen) known.files f known.sees examines.sees;
      sequence = subst (λ (seen : List Seen). IsSequence seen t) (sym (seen_more known.files f))
          (goes (seen_in known.files) known.sequence);
    }

zero_where : {G : Type 0} (standing : Standing) → (standing ≡ Sound) ↔ G → (status_of standing ≡ 0) ↔ G
zero_where Sound good = (λ is. good.0 refl, λ g. refl)
zero_where Starved good = (λ is. absurd (omega (arith, is)), λ g. absurd (cc (good.1 g)))
zero_where Accused good = (λ is. absurd (omega (arith, is)), λ g. absurd (cc (good.1 g)))

-- the status that all of them come to
pub examined_so : (old new : List Sighting) (paths : List (List ℕ)) (s : Sequence) (standing : Standing) (status : ℕ) →
    AreSighted old new paths s → ((seen : List Seen) → IsSequence seen s → (standing ≡ Sound) ↔ AreGood seen) →
    ((seen : List Seen) → IsSequence seen s → IsWorst seen standing) → status ≡ status_of standing →
    AreExamined old paths new status
examined_so old new paths s standing status known good worst is =
    let seen = seen_in known.files in
    record {
      files = known.files;
      more = known.more;
      are = known.are;
      sees = known.sees;
      good = subst (λ (n : ℕ). (n ≡ 0) ↔ AreGood seen) (sym is) (zero_where standing (good seen known.sequence));
      worst = (standing, worst seen known.sequence, is);
    }
