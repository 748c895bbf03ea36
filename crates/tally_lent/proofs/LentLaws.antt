-- A function to which the tally is lent meets its contract: a walk of its code. The borrow is opened, the tally is
-- copied out and passed to the callee, whose result is stored, and the borrow is closed at it. Brackets have what is
-- held before a step; a local is two entries, what it holds and its end. Assumes nothing.
use mathlib.Core.Path.{◌≡◌, refl, sym, subst}
use Prim.Native.Nat.{ℕ, ◌<◌, ◌^◌}
use mathlib.Core.List.{[], ◌∷◌, List}
use seplogic.Ra.Ura.{Ura}
use base.Fraction.{full_share}
use mir.Syntax.{Fn, Callee, Opd, named, w64}
use mir.Val.{Val, vunit, vint, vptr}
use base.Logic.{SProp, ent, sep, snd∗, ex_e, id⊢}
use base.Fml.{GName, Lft, Share, ftrue, flft, fobs, fbor}
use prog.Wp.{Calls, Loops, WpFn, Tables}
use types.Logic.{Logic, sem}
use contract.Monad.{fact}
use types.Kit.{‵, raw, ◌⊛◌, some, later, ◌$◌, ◌∵◌, !, qed, by, move, keep, drop, use0, use1, use2, split, join}
use types.Kit.{pick, fsplit, fsplit3, fjoin, fjoin3, feq_i, suffices, frame, await, done}
use types.Run.{look, look_raw, init, store_raw, forget, stop, hop, from, load, and_then, land, unit_lit}
use types.Run.{of_opd, assigns, returns, enter, alloc1, alloc0, params1, pass1, pass0, free1, free0}
use types.SemTy.{Body}
use sound.WpLaws.{FmC, fm_of, WpFn-mono}
use denote.RattleType.{owns}
use denote.Laws.{Is, shows}
use denote.Memory.{mem}
use denote.Plain.{uint_vals, uint_Tells}
use denote.Builtin.{usize}
use denote.Ref.{MutBor, MutRef, mut_vals, mut_Tells}
use denote.Signature.{plain}
use denote.Steps.{opens, closes, peeks, heard, nothing}
use denote.Struct.Steps.{spelt}
use denote.Struct.Laws as LL
use denote.Triple.Statement.{Triple}
use denote.Triple.Call.{calls_at}
use denote.Triple.Entry.{on_entry}
use denote.Triple.Spec.{Meets}
use denote.Triple.Clauses.{closing, ensured, lasts}
use denote.Triple.Walked.{says, needs, Stays, stay_ref, stay_none, walk_of, AllGo, Goes-none, Goes-ref, ends_at, walked}
use denote.Triple.Walked.{walk_Meets}
use denote.Exit.{yes}
use Rattle.store.specs.declared.Tally.{Tally}
use Rattle.store.specs.contracts.Tally as S
use Rattle.store.proofs.Tally.TheLaws as S'
use Rattle.tally_lent.proofs.Lending.{Update, Fits, value, lent, value-clauses, lent-clauses, ByValue}
use Rattle.tally_lent.proofs.Lending.{lent-code, vals, typed}
use Rattle.tally_lent.proofs.Numbers.{at-numbers, numbers, numbers-owned, Pass, and-numbers}

-- at exit the tally is still lent
abbrev stayed : Stays lent.signature.params lent.kept
stayed =
    (stay_ref (0 ∷ []) tt (plain (λ _. S.the_row)), (stay_none (λ _. usize) yes, (stay_none (λ _. usize) yes, tt)))

module _ {M : Type 1} {𝓤 : Ura M} (𝓛 : Logic 𝓤) (update : Update) (k : Callee)
    (i j : Opd) (pass : Pass i j) where
  -- the callee's clause alone
  open 𝓛 use {H, A}

  said : (h : Tally) (x n : ℕ) (r : Tally)
      → ent 𝓤 (ensured 𝓛 value (value-clauses 𝓤 update) tt (h, (x, (n, tt))) tt r)
      (fact 𝓤 (r.leaves ≡ update x n h.leaves))
  said h x n r =
      ex_e 𝓤 _
      (λ ws. snd∗ 𝓤 (sem 𝓛 (lasts value tt (h, (x, (n, tt))) ws)) (fact 𝓤 (r.leaves ≡ update x n h.leaves)))

  module _ (κ : Lft) (q : Share) (b o : ℕ) (γ : GName) (h : Tally) (x n : ℕ) (ok : Fits h x n) where
    abbrev args : MutBor Tally × (ℕ × (ℕ × Unit {0}))
    args = (record { ref_ptr = (b, o); ghost_name = γ; now = h }, (x, (n, tt)))

    abbrev at : List Val × (List Val × (List Val × Unit {0}))
    at = (vptr b o ∷ [], at-numbers x n)

    abbrev Post : Val → SProp 𝓤
    Post = (walk_of 𝓛 lent stayed (lent-clauses 𝓤 update)).post (((κ, tt), (q, tt), tt, args, at), tt)

    exits : (r : Tally) → r.leaves ≡ update x n h.leaves → x < 2 ^ 64 → n < 2 ^ 64
        → ent 𝓤
        (sep 𝓤 (A.obs γ ((S.the_row).coded.code r)) (sep 𝓤 (A.bor κ (Body (mem S.the_row) b o γ)) (A.lft κ q)))
        (Post vunit)
    exits r e fits-x fits-n =
        qed 𝓛 (‵ (fobs γ ((S.the_row).coded.code r)) ∷ ‵ (fbor κ (Body (mem S.the_row) b o γ)) ∷ ‵ (flft κ q) ∷ []) ∵
        suffices ! _ (ends_at 𝓛 lent stayed (lent-clauses 𝓤 update) (((κ, tt), (q, tt), tt, args, at), tt)
        vunit tt (r, (tt, (tt, tt))) (tt, (tt, (tt, tt)))) $ says ! e $ nothing ! $ move ! (3 ∷ 0 ∷ []) $ join ! $
        frame ! $ feq_i ! (List Val) (vptr b o ∷ []) (vptr b o ∷ []) refl $ fjoin3 ! $
        use0 𝓛 (‵ (numbers x n)) (numbers-owned 𝓛 x n fits-x fits-n) $ move ! (1 ∷ 0 ∷ []) $ fjoin ! $
        feq_i ! (List Val) (vunit ∷ []) (vunit ∷ []) refl $ move ! (1 ∷ 0 ∷ []) $ done !

    -- what the callee is passed, and that it may be called
    abbrev at_call : (ByValue 𝓤 update 𝓛).Ghost
    at_call = ((tt, tt, tt, (h, (x, (n, tt))), (vals h, at-numbers x n)), tt)

    asked : ent 𝓤 (sep 𝓤 (sem 𝓛 ((S.the_row).own_val h (vals h))) (sem 𝓛 (numbers x n)))
        ((ByValue 𝓤 update 𝓛).pre at_call)
    asked =
        qed 𝓛 (‵ ((S.the_row).own_val h (vals h)) ∷ ‵ (numbers x n) ∷ []) ∵
        says ! ok $ fjoin ! $ nothing ! $ frame ! $ done !

    module _ (C : Calls 𝓤 H) (Λ : Loops 𝓤 H) (fm : FmC 𝓤 H 𝓛.laws C)
        (known : Triple 𝓤 (C k) (ByValue 𝓤 update 𝓛)) where
      walk : ent 𝓤 (on_entry 𝓛 lent.signature (κ, tt) (q, tt) args at)
          (WpFn 𝓤 H C Λ (lent-code k i j) (vptr b o ∷ vint w64 x ∷ vint w64 n ∷ []) Post)
      walk =
          qed 𝓛 ((‵ (flft κ q) ⊛ ‵ ftrue) ∷ ‵ (owns (MutRef (named 0) κ S.the_row ∷ usize ∷ usize ∷ []) args at) ∷ []) ∵
          split ! $ move ! (2 ∷ []) $ fsplit ! $ move ! (1 ∷ []) $ fsplit ! $ move ! (1 ∷ []) $ fsplit ! $
          peeks ! usize (Is usize) (shows 𝓛 usize) n (vint w64 n ∷ []) (λ is-n. move ! (2 ∷ []) $
          peeks ! usize (Is usize) (shows 𝓛 usize) x (vint w64 x ∷ []) (λ is-x. move ! (3 ∷ []) $ fsplit3 ! $
          drop ! $ move ! (0 ∷ 1 ∷ 5 ∷ []) $
          -- [obs; the borrow; the token; what x and n own; true; true]
          enter ! C Λ (lent-code k i j) (vptr b o ∷ vint w64 x ∷ vint w64 n ∷ []) _ $
          alloc1 ! (λ l₀. alloc1 ! (λ l₁. alloc1 ! (λ l₂. alloc1 ! (λ l₃. alloc1 ! (λ l₄. alloc1 ! (λ l₅. alloc0 ! $
          params1 ! $ pass1 ! (init ! 8 refl (tt, tt)) $ pass1 ! (init ! 6 refl (tt, record { fits = is-x.1 })) $
          pass1 ! (init ! 4 refl (tt, record { fits = is-n.1 })) $ pass0 ! $
          move ! (12 ∷ 13 ∷ 14 ∷ []) $ opens ! tt S.the_row {h = h} b o (λ vs.
          spelt ! S.the_row (Is S.the_row) (shows 𝓛 S.the_row) vals (LL.tells S.the_type S'.the_laws) full_share h vs
          b o $ move ! (1 ∷ []) $
          peeks ! S.the_row (Is S.the_row) (shows 𝓛 S.the_row) h (vals h) (λ was. move ! (1 ∷ 0 ∷ []) $
          -- [the cell; what the tally owns; the open borrow; obs; auth; _5; _4; _3; _2; _1; _0]
          assigns ! (of_opd ! (load ! (from ! (hop ! (look ! 13 refl) (stop !))) (look_raw ! 0 refl))) (from ! (stop !))
          (init ! 5 refl (typed 𝓛 h _ was)) $
          use0 𝓛 (‵ (numbers x n)) (numbers-owned 𝓛 x n is-x.1 is-n.1) $ move ! (2 ∷ 0 ∷ []) $
          use2 𝓛 (raw ((ByValue 𝓤 update 𝓛).pre at_call)) asked $
          -- [what the call asks; the cell; the open borrow; obs; auth; _5; _4; _3; _2; _1; _0]
          calls_at ! fm (ByValue 𝓤 update 𝓛) known at_call
          (and_then ! (load ! (from ! (stop !)) (look ! 5 refl)) (and-numbers ! pass
          (load ! (from ! (stop !)) (look ! 11 refl)) (load ! (from ! (stop !)) (look ! 9 refl)))) (λ v.
          use1 𝓛 (later (some (λ (r : Tally). (‵ ftrue ⊛ ‵ ((S.the_row).own_val r (v ∷ [])))
          ⊛ raw (ensured 𝓛 value (value-clauses 𝓤 update) tt (h, (x, (n, tt))) tt r)))) (id⊢ 𝓤 _) $
          await ! tt $ pick ! (λ r. split ! $ move ! (1 ∷ []) $
          use1 𝓛 (raw (fact 𝓤 (r.leaves ≡ update x n h.leaves))) (said h x n r) $
          heard ! (r.leaves ≡ update x n h.leaves) (λ e. split ! $ drop ! $
          peeks ! S.the_row (Is S.the_row) (shows 𝓛 S.the_row) r (v ∷ []) (λ is.
          -- [what the result owns; the cell; the open borrow; obs; auth; _5; _4; _3; _2; _1; _0]
          land ! (from ! (stop !)) (init ! 7 refl (typed 𝓛 r _ is)) $
          assigns ! (of_opd ! (load ! (from ! (stop !)) (look ! 7 refl))) (from ! (hop ! (look ! 13 refl) (stop !)))
          (store_raw ! 1 refl (typed 𝓛 r _ is)) $
          assigns ! (of_opd ! (unit_lit !)) (from ! (stop !)) (init ! 15 refl (tt, tt)) $
          move ! (1 ∷ 0 ∷ []) $ closes ! tt S.the_row r (v ∷ []) b o $
          -- [obs; the borrow; the token; _5; _4; _3; _2; _1; _0]
          returns ! (look ! 13 refl) $ forget ! 3 refl $ forget ! 5 refl $ forget ! 7 refl $ forget ! 9 refl $
          forget ! 11 refl $ forget ! 13 refl $
          move ! (13 ∷ 14 ∷ []) $ free1 ! $ move ! (11 ∷ 12 ∷ []) $ free1 ! $ move ! (9 ∷ 10 ∷ []) $ free1 ! $
          move ! (7 ∷ 8 ∷ []) $ free1 ! $ move ! (5 ∷ 6 ∷ []) $ free1 ! $ move ! (3 ∷ 4 ∷ []) $ free1 ! $ free0 ! $
          keep ! (0 ∷ 1 ∷ 2 ∷ []) $ by ! (exits r e is-x.1 is-n.1)))))))))))))))

  goes : AllGo 𝓛 1 lent.signature.params lent.kept stayed
  goes = (
    Goes-ref 𝓛 1 0 tt (plain (λ _. S.the_row)),
    (
      Goes-none 𝓛 1 (λ _. usize) yes (λ κs x f. refl),
      (Goes-none 𝓛 1 (λ _. usize) yes (λ κs x f. refl), tt),
    ),
  )

  -- of any function whose code is this
  pub lent-meets : (e : Fn) → e ≡ lent-code k i j → (𝓣 : Tables 𝓤 H) → Triple 𝓤 (𝓣.C k) (ByValue 𝓤 update 𝓛)
      → Meets 𝓛 lent.signature (WpFn 𝓤 H 𝓣.C 𝓣.Λ e) (closing 𝓛 lent (lent-clauses 𝓤 update))
  lent-meets e same 𝓣 known =
      let run = WpFn 𝓤 H 𝓣.C 𝓣.Λ (lent-code k i j) in
      subst
      (λ (f : Fn). Meets 𝓛 lent.signature (WpFn 𝓤 H 𝓣.C 𝓣.Λ f)
      (closing 𝓛 lent (lent-clauses 𝓤 update)))
      (sym same)
      (walk_Meets 𝓛 lent stayed goes (lent-clauses 𝓤 update) run (WpFn-mono 𝓤 H 𝓛.laws 𝓣 (lent-code k i j))
      (walked 𝓛 lent stayed (lent-clauses 𝓤 update) run (λ κs. (mut_vals, (uint_vals w64, (uint_vals w64, tt))))
      (λ κs. (mut_Tells (named 0) κs.0 S.the_row, (uint_Tells w64, (uint_Tells w64, tt))))
      (λ κs qs bounds a _ _. needs 𝓤 _ _ (λ ok. walk κs.0 qs.0 a.0.ref_ptr.0 a.0.ref_ptr.1 a.0.ghost_name
      a.0.now a.1.0 a.1.1.0 ok 𝓣.C 𝓣.Λ (fm_of 𝓤 H 𝓛.laws 𝓣) known))))
