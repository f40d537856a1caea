-- An empty body. The borrow is opened and closed at another ghost value.
use Rattle.std.proofs.Common.{ℕ, List, [], ◌∷◌, ◌++◌, refl, MutBor, ◌<◌, ◌^◌, length}
use seplogic.Ra.Ura.{Ura}
use mir.Syntax.{named, Fn, Args, a_type}
use mir.Val.{Val, vunit, vptr}
use mir.MapTy.{inst_fn}
use base.Logic.{SProp, ent, sep, emp, via, fst∗, id⊢}
use base.Fml.{Fml, GName, Lft, Share, ftrue, flft, fobs, fbor}
use prog.Memory.{Memory}
use prog.Routine.{Routine}
use prog.Wp.{Calls, Loops, WpFn, Tables}
use types.Logic.{Logic, sem}
use contract.Monad.{Fun}
use contract.Lifetimes.{AllOutlive}
use contract.Running.{tables, tables_of}
use types.Kit.{‵, ◌⊛◌, ◌$◌, ◌∵◌, !, qed, by, move, keep, drop, use1, split, join, fsplit, fsplit3, fjoin, fjoin3}
use types.Kit.{feq_i, suffices, frame, done}
use types.Run.{unit_lit, of_opd, returns, enter}
use types.SemTy.{Body}
use types.ByLocal.{alloc_all, pass_all, free_all, look_at, sets}
use sound.WpLaws.{WpFn-mono}
use denote.RattleType.{RattleType, owns}
use denote.Param.{param, layouts}
use denote.Memory.{mem}
use denote.Builtin.{u8}
use denote.Exit.{yes}
use denote.Ref.{Bor, MutRef, mut_vals, mut_Tells, ShrRef, shr_vals, shr_Tells}
use denote.Slice.{ShrSlice, slice_val, shr_slice_vals, shr_slice_Tells}
use denote.Signature.{plain}
use denote.Steps.{opens, closes}
use denote.Triple.Entry.{on_entry}
use denote.Triple.Spec.{Meets, triple_of}
use denote.Triple.Table.{entered}
use denote.Triple.Walked.{says, Stays, stay_ref, stay_none_ref, stay_none_slice, walk_of, AllGo, Goes-ref}
use denote.Triple.Walked.{Goes-none_ref, Goes-none_slice, Walks, ends_at, walked, walk_Meets}
use Rattle.swim_trail.specs.contracts.trails.Trail as T
use Rattle.swim_trail.specs.contracts.trails.Trail.note.Key.{name as #it}
use Rattle.swim_trail.specs.contracts.trails.Trail.note as it
use Rattle.swim_trail.proofs.trails.Trail.note.Statement as stated
use Rattle.swim_trail.proofs.trails.Trail.note.Code as code

module _ (Y : RattleType) where
  abbrev R : RattleType
  R = param 0 Y

  abbrev Row : RattleType
  Row = T.the_row R

  abbrev args : Args
  args = layouts (a_type ∷ []) (Y, tt)

  abbrev function : Fn
  function = inst_fn args code.function

  abbrev Arg : Type 0
  Arg = MutBor Row.Denot × (Bor R.Denot × (Bor (List ℕ) × Unit {0}))

  abbrev stayed : Stays (it.ended Y).signature.params (it.ended Y).kept
  stayed = (
    stay_ref (0 ∷ []) tt (plain (λ _. Row)),
    (stay_none_ref (1 ∷ []) tt (plain (λ _. R)) yes, (stay_none_slice (2 ∷ []) tt (plain (λ _. u8)) yes, tt)),
  )

module _ (Y : RattleType) {M : Type 1} {𝓤 : Ura M} (𝓛 : Logic 𝓤) (at_mem : Memory → SProp 𝓤) (run : Routine → Fun 𝓤)
    (κ κ' κ'' κA : Lft) (bounds : AllOutlive (it.ended Y).signature.lifetimes (it.ended Y).signature.outlives
    (κ, (κ', (κ'', (κA, tt))))) (q q' q'' qA : Share) (b o : ℕ) (γ : GName) (h : (Row Y).Denot) (k : Bor (R Y).Denot)
    (s : Bor (List ℕ)) where
  open 𝓛 use {H, A}

  abbrev x : Arg Y
  x = (record { ref_ptr = (b, o); ghost_name = γ; now = h }, (k, (s, tt)))

  abbrev h' : (Row Y).Denot
  h' = record { of = h.of; items = h.items ++ (k.now, s.now) ∷ [] }

  abbrev at : List Val × (List Val × (List Val × Unit {0}))
  at = (vptr b o ∷ [], (shr_vals k, (slice_val s.ref_ptr (length s.now) ∷ [], tt)))

  abbrev rest : Fml
  rest = owns (ShrRef (named 1) κ' (R Y) ∷ ShrSlice (named 2) κ'' u8 ∷ []) x.1 at.1

  abbrev Post : Val → SProp 𝓤
  Post = (walk_of 𝓛 (it.ended Y) (stayed Y) (it.clauses Y 𝓛 at_mem run)).post
      (((κ, (κ', (κ'', (κA, tt)))), (q, (q', (q'', (qA, tt)))), bounds, x, at), tt)

  exits : ent 𝓤 (sep 𝓤 (A.obs γ ((Row Y).coded.code h'))
      (sep 𝓤 (A.bor κ (Body (mem (Row Y)) b o γ)) (sep 𝓤 (A.lft κ q)
      (sep 𝓤 (sem 𝓛 rest) (sep 𝓤 (A.lft κ' q') (sep 𝓤 (A.lft κ'' q'') (sep 𝓤 (A.lft κA qA) (emp 𝓤)))))))) (Post vunit)
  exits =
      qed 𝓛 (‵ (fobs γ ((Row Y).coded.code h')) ∷ ‵ (fbor κ (Body (mem (Row Y)) b o γ)) ∷ ‵ (flft κ q) ∷ ‵ rest ∷
      (‵ (flft κ' q') ⊛ (‵ (flft κ'' q'') ⊛ (‵ (flft κA qA) ⊛ ‵ ftrue))) ∷ []) ∵
      suffices ! _ (ends_at 𝓛 (it.ended Y) (stayed Y) (it.clauses Y 𝓛 at_mem run)
      (((κ, (κ', (κ'', (κA, tt)))), (q, (q', (q'', (qA, tt)))), bounds, x, at), tt) vunit tt (h', (tt, (tt, tt)))
      (tt, (tt, (tt, tt)))) $ says ! refl $ move ! (2 ∷ 4 ∷ []) $ join ! $
      frame ! $ feq_i ! (List Val) (vptr b o ∷ []) (vptr b o ∷ []) refl $ fjoin3 ! $ fjoin ! $
      feq_i ! (List Val) (vunit ∷ []) (vunit ∷ []) refl $ move ! (1 ∷ 0 ∷ []) $ done !

  module _ (C : Calls 𝓤 H) (Λ : Loops 𝓤 H) where
    walk : length s.now < 2 ^ 64 → ent 𝓤 (on_entry 𝓛 (it.signature Y) (κ, (κ', (κ'', (κA, tt))))
        (q, (q', (q'', (qA, tt)))) x at) (WpFn 𝓤 H C Λ (function Y)
        (vptr b o ∷ vptr k.ref_ptr.0 k.ref_ptr.1 ∷ slice_val s.ref_ptr (length s.now) ∷ []) Post)
    walk fs =
        qed 𝓛 ((‵ (flft κ q) ⊛ (‵ (flft κ' q') ⊛ (‵ (flft κ'' q'') ⊛ (‵ (flft κA qA) ⊛ ‵ ftrue)))) ∷
        ‵ (owns (MutRef (named 0) κ (Row Y) ∷ ShrRef (named 1) κ' (R Y) ∷ ShrSlice (named 2) κ'' u8 ∷ []) x at) ∷
        []) ∵ split ! $ move ! (2 ∷ []) $ fsplit ! $ fsplit3 ! $ drop ! $ move ! (0 ∷ 1 ∷ 3 ∷ []) $
        enter ! C Λ (function Y) (vptr b o ∷ vptr k.ref_ptr.0 k.ref_ptr.1 ∷ slice_val s.ref_ptr (length s.now) ∷ []) _ $
        alloc_all ! (λ l. pass_all ! refl ((tt, tt), ((tt, tt), ((tt, (tt, (record { fits = fs }, tt))), tt))) $
        move ! (0 ∷ 1 ∷ 2 ∷ []) $ opens ! tt (Row Y) {h = h} b o (λ vs.
        sets ! (of_opd ! (unit_lit !)) refl (tt, tt) $
        move ! (1 ∷ []) $ use1 𝓛 (‵ ((Row Y).own_val h' vs)) (id⊢ 𝓤 _) $ move ! (1 ∷ 0 ∷ []) $
        closes ! tt (Row Y) h' vs b o $
        returns ! (look_at ! 0 refl) $ free_all ! refl $
        keep ! (0 ∷ 1 ∷ 2 ∷ 3 ∷ 4 ∷ []) $ by ! exits))

module _ (Y : RattleType) {M : Type 1} {𝓤 : Ura M} (𝓛 : Logic 𝓤) (at_mem : Memory → SProp 𝓤) (run : Routine → Fun 𝓤)
  where
    open 𝓛 use {H}

    walks : (C : Calls 𝓤 H) (Λ : Loops 𝓤 H) → Walks 𝓛 (it.ended Y) (stayed Y) (WpFn 𝓤 H C Λ (function Y))
        (it.clauses Y 𝓛 at_mem run)
    walks C Λ = walked 𝓛 (it.ended Y) (stayed Y) (it.clauses Y 𝓛 at_mem run) (WpFn 𝓤 H C Λ (function Y))
        (λ κs. (mut_vals, (shr_vals, (shr_slice_vals, tt))))
        (λ κs. (
          mut_Tells (named 0) κs.0 (Row Y),
          (
            shr_Tells (named 1) κs.1.0 (R Y),
            (shr_slice_Tells (named 2) κs.1.1.0 u8, tt),
          ),
        ))
        (λ κs qs bounds a g are. via 𝓤 _ (fst∗ 𝓤 _ ((it.clauses Y 𝓛 at_mem run κs a).requires g))
        (walk Y 𝓛 at_mem run κs.0 κs.1.0 κs.1.1.0 κs.1.1.1.0 bounds qs.0 qs.1.0 qs.1.1.0 qs.1.1.1.0 a.0.ref_ptr.0
        a.0.ref_ptr.1 a.0.ghost_name a.0.now a.1.0 a.1.1.0 C Λ are.1.1.0.0.1.0))

    goes : AllGo 𝓛 4 (it.signature Y).params (it.ended Y).kept (stayed Y)
    goes =
        let value = Goes-none_ref 𝓛 4 (1 ∷ []) tt (plain (λ _. R Y)) yes in
        let bytes = Goes-none_slice 𝓛 4 (2 ∷ []) tt (plain (λ _. u8)) yes in
        (Goes-ref 𝓛 4 0 tt (plain (λ _. Row Y)), (value, (bytes, tt)))

meets : (Y : RattleType) {M : Type 1} {𝓤 : Ura M} (𝓛 : Logic 𝓤) →
    (at_mem : Memory → SProp 𝓤) (run : Routine → Fun 𝓤) (𝓣 : Tables 𝓤 𝓛.H)
    → Meets 𝓛 (it.signature Y) (WpFn 𝓤 𝓛.H 𝓣.C 𝓣.Λ (function Y)) (it.spec Y 𝓛 at_mem run)
meets Y {𝓤 = 𝓤} 𝓛 at_mem run 𝓣 = walk_Meets 𝓛 (it.ended Y) (stayed Y) (goes Y 𝓛 at_mem run)
    (it.clauses Y 𝓛 at_mem run) (WpFn 𝓤 𝓛.H 𝓣.C 𝓣.Λ (function Y)) (WpFn-mono 𝓤 𝓛.H 𝓛.laws 𝓣 (function Y))
    (walks Y 𝓛 at_mem run 𝓣.C 𝓣.Λ)

pub note_spec : {M : Type 1} → stated.statement M
unfolding tables_of
note_spec 𝓤 𝓛 𝓜 𝓡 wired Y LY =
    entered 𝓤 𝓛.H (triple_of 𝓛 (it.signature Y) (it.spec Y 𝓛 𝓜.mem 𝓡.returns))
    (tables 𝓤 𝓛.H 𝓜 𝓡 𝓡.env).C (tables 𝓤 𝓛.H 𝓜 𝓡 𝓡.env).Λ (#it (args Y)) (function Y)
    (code.unfolded 𝓤 𝓛.H 𝓜 𝓡 wired (Y, tt))
    (meets Y 𝓛 𝓜.mem 𝓡.returns (tables_of 𝓤 𝓛.H 𝓜 (tables 𝓤 𝓛.H 𝓜 𝓡 𝓡.env)))
