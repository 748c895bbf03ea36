-- A function that lends a tally of its own meets its contract: a walk of its code. A local holds the tally, a lifetime
-- is made, the local is lent for it to the callee, and comes back at what the callee left. Brackets have what is held
-- before a step; a local is two entries, what it holds and its end. Assumes nothing.
use mathlib.Core.Path.{◌≡◌, refl, sym, ap, subst}
use Prim.Native.Nat.{ℕ, ◌<◌, ◌^◌}
use mathlib.Core.List.{[], ◌∷◌, List}
use seplogic.Ra.Ura.{Ura}
use base.Fraction.{full_share}
use lib.Dec.{T}
use mir.Syntax.{Fn, Callee, Opd, named, w64, ty_unit}
use mir.Val.{Val, vunit, vint, vptr, has_ty, WT}
use base.Logic.{SProp, ent, sep, emp, via, fst∗, snd∗, ex_e, id⊢, guard}
use base.Fml.{GName, Fml, ftrue, flft, fres, flent, fat, fsep}
use prog.Wp.{Calls, Loops, WpFn, Tables}
use types.Logic.{Logic, sem}
use contract.Monad.{fact, fact_use}
use types.Kit.{‵, raw, ◌⊛◌, given, some, later, ◌$◌, ◌∵◌, !, qed, by, move, keep, use0, use1, use3, split, join}
use types.Kit.{pick, learn, fpick, fpack, fsplit, fjoin, feq_l, check, suffices, frame, await, updating, done}
use types.Kit.{now as at_once}
use types.Run.{look, init, forget, stop, from, load, addr, and_then, land, of_opd, assigns, returns, enter}
use types.Run.{alloc1, alloc0, params1, pass1, pass0, free1, free0}
use types.Tokens.{lft_new, lft_end}
use types.SemTy.{Body}
use sound.WpLaws.{FmC, fm_of, WpFn-mono}
use denote.RattleType.{owns}
use denote.Laws.{Is, shows}
use denote.Memory.{mem, part_at, part_of, cell_at}
use denote.Plain.{Nothing, uint_vals, uint_Tells}
use denote.Builtin.{usize}
use denote.Ref.{MutBor, MutRef}
use denote.Lend.{lends_ref, ref_back}
use denote.Steps.{only, owned, peeks, nothing}
use denote.Struct.Steps.{spelt}
use denote.Struct.Laws as LL
use denote.Triple.Statement.{Triple}
use denote.Triple.Call.{calls_at}
use denote.Triple.Entry.{on_entry}
use denote.Triple.Spec.{Meets}
use denote.Triple.Clauses.{closing, ensured, lasts}
use denote.Triple.Walked.{says, needs, Stays, stay_none, walk_of, AllGo, Goes-none, ends_at, walked, walk_Meets}
use denote.Exit.{yes}
use Rattle.store.specs.declared.Tally.{Tally}
use Rattle.store.specs.contracts.Tally as S
use Rattle.store.proofs.Tally.TheLaws as S'
use Rattle.tally_lent.proofs.Lending.{Update, Fits, value, lent, value-clauses, lent-clauses, Lent}
use Rattle.tally_lent.proofs.Lending.{value-code, val, vals, typed}
use Rattle.tally_lent.proofs.Numbers.{at-numbers, numbers, numbers-owned, Pass, and-numbers}

abbrev stayed : Stays value.signature.params value.kept
stayed = (stay_none (λ _. S.the_row) yes, (stay_none (λ _. usize) yes, (stay_none (λ _. usize) yes, tt)))

module _ {M : Type 1} {𝓤 : Ura M} (𝓛 : Logic 𝓤) (update : Update) (k : Callee)
    (i j : Opd) (pass : Pass i j) where
  open 𝓛 use {H, A}

  module _ (h : Tally) (x n : ℕ) (ok : Fits h x n) where
    -- the tally as it comes back
    abbrev back : Tally
    back = record { leaves = update x n h.leaves }

    abbrev at : List Val × (List Val × (List Val × Unit {0}))
    at = (vals h, at-numbers x n)

    abbrev Post : Val → SProp 𝓤
    Post = (walk_of 𝓛 value stayed (value-clauses 𝓤 update)).post ((tt, tt, tt, (h, (x, (n, tt))), at), tt)

    exits : Is S.the_row h (vals h) → x < 2 ^ 64 → n < 2 ^ 64
        → ent 𝓤 (sem 𝓛 ((S.the_row).own_val back (vals back))) (Post (val back))
    exits was fits-x fits-n =
        qed 𝓛 (‵ ((S.the_row).own_val back (vals back)) ∷ []) ∵
        suffices ! _ (ends_at 𝓛 value stayed (value-clauses 𝓤 update) ((tt, tt, tt, (h, (x, (n, tt))), at), tt)
        (val back) back (tt, (tt, (tt, tt))) (tt, (tt, (tt, tt)))) $ says ! refl $
        use0 𝓛 (‵ (numbers x n)) (numbers-owned 𝓛 x n fits-x fits-n) $
        owned ! S.the_row (Is S.the_row) (LL.makes S.the_type S'.the_plain 𝓛) h (vals h) was $ fjoin ! $
        nothing ! $ frame ! $ done !

    -- the local l, lent at a lifetime α under a name δ
    module _ (l α : ℕ) (δ : GName) where
      abbrev ref : MutBor Tally
      ref = record { ref_ptr = (l, 0); ghost_name = δ; now = h }

      abbrev own-ref : Fml
      own-ref = (MutRef (named 0) (α ∷ []) S.the_row).own_val ref (vptr l 0 ∷ [])

      abbrev at_call : (Lent 𝓤 update 𝓛).Ghost
      at_call = (((α ∷ [], tt), (full_share, tt), tt, (ref, (x, (n, tt))), (vptr l 0 ∷ [], at-numbers x n)), tt)

      asked : ent 𝓤 (sep 𝓤 (A.lft (α ∷ []) full_share) (sep 𝓤 (sem 𝓛 own-ref) (sem 𝓛 (numbers x n))))
          ((Lent 𝓤 update 𝓛).pre at_call)
      asked =
          qed 𝓛 (‵ (flft (α ∷ []) full_share) ∷ ‵ own-ref ∷ ‵ (numbers x n) ∷ []) ∵ says ! ok $
          nothing ! $ move ! (1 ∷ 0 ∷ []) $ join ! $ frame ! $ fjoin ! $ done !

      told : (r : Unit {0}) → ent 𝓤 (ensured 𝓛 lent (lent-clauses 𝓤 update) (α ∷ [], tt) (ref, (x, (n, tt))) tt r)
          (A.res δ ((S.the_row).coded.code back))
      told r = ex_e 𝓤 _ (λ ws.
          let N : SProp 𝓤 = A.res δ ((S.the_row).coded.code ws.0) in
          let B : SProp 𝓤 = A.bor (α ∷ []) (Body (mem S.the_row) l 0 δ) in
          let L : SProp 𝓤 = sem 𝓛 (lasts lent (α ∷ [], tt) (ref, (x, (n, tt))) ws) in
          let E : SProp 𝓤 = fact 𝓤 (ws.0.leaves ≡ back.leaves) in
          fact_use 𝓤 (ws.0.leaves ≡ back.leaves) (snd∗ 𝓤 L E) (λ e.
          subst (λ (ys : List ℕ). ent 𝓤 (sep 𝓤 L E) (A.res δ ((S.the_row).coded.code (record { leaves = ys })))) e
          (via 𝓤 L (fst∗ 𝓤 L E) (via 𝓤 (sep 𝓤 N B)
          (fst∗ 𝓤 (sep 𝓤 N B) (sep 𝓤 (emp 𝓤) (sep 𝓤 (emp 𝓤) (emp 𝓤)))) (fst∗ 𝓤 N B)))))

      gives : (v : Val) → ent 𝓤 ((Lent 𝓤 update 𝓛).post at_call v)
          (H.⇛ (guard 𝓤 (v ≡ vunit) (sep 𝓤 (A.lft (α ∷ []) full_share) (A.res δ ((S.the_row).coded.code back)))))
      gives v =
          qed 𝓛 (raw ((Lent 𝓤 update 𝓛).post at_call v) ∷ []) ∵ updating ! $
          use1 𝓛 (later (some (λ (r : Unit {0}). ((‵ (flft (α ∷ []) full_share) ⊛ ‵ ftrue) ⊛ ‵ (Nothing.own_val r (v ∷ [])))
          ⊛ raw (ensured 𝓛 lent (lent-clauses 𝓤 update) (α ∷ [], tt) (ref, (x, (n, tt))) tt r)))) (id⊢ 𝓤 _) $
          await ! tt $ pick ! (λ r. split ! $ move ! (1 ∷ []) $
          use1 𝓛 (‵ (fres δ ((S.the_row).coded.code back))) (told r) $ move ! (1 ∷ []) $ split ! $ move ! (1 ∷ []) $
          feq_l ! (λ e. at_once ! $ check ! (ap only e) $ split ! $ keep ! (0 ∷ 2 ∷ []) $ done !))

    module _ (C : Calls 𝓤 H) (Λ : Loops 𝓤 H) (fm : FmC 𝓤 H 𝓛.laws C)
        (known : Triple 𝓤 (C k) (Lent 𝓤 update 𝓛)) where
      walk : Is S.the_row h (vals h) → x < 2 ^ 64 → n < 2 ^ 64
          → ent 𝓤 (on_entry 𝓛 value.signature tt tt (h, (x, (n, tt))) at)
          (WpFn 𝓤 H C Λ (value-code k i j) (val h ∷ vint w64 x ∷ vint w64 n ∷ []) Post)
      unfolding part_of
      walk was fits-x fits-n =
          qed 𝓛 (‵ ftrue ∷ ‵ (owns (S.the_row ∷ usize ∷ usize ∷ []) (h, (x, (n, tt))) at) ∷ []) ∵
          enter ! C Λ (value-code k i j) (val h ∷ vint w64 x ∷ vint w64 n ∷ []) _ $
          alloc1 ! (λ l₀. alloc1 ! (λ l₁. alloc1 ! (λ l₂. alloc1 ! (λ l₃. alloc1 ! (λ l₄. alloc1 ! (λ l₅.
          alloc1 ! (λ l₆. alloc0 ! $ params1 ! $ pass1 ! (init ! 10 refl (typed 𝓛 h _ was)) $
          pass1 ! (init ! 8 refl (tt, record { fits = fits-x })) $
          pass1 ! (init ! 6 refl (tt, record { fits = fits-n })) $ pass0 ! $
          assigns ! (of_opd ! (load ! (from ! (stop !)) (look ! 10 refl))) (from ! (stop !))
          (init ! 4 refl (typed 𝓛 h _ was)) $
          assigns ! (addr ! (from ! (stop !))) (from ! (stop !)) (init ! 0 refl (tt, tt)) $
          -- [_6; _5; _4; _3; _2; _1; _0]: _4 is what lies in memory, and is lent
          move ! (4 ∷ []) $ use1 𝓛 (‵ (cell_at full_share (S.the_row).mir (vals h) l₄ 0))
          (𝓛.laws.at_raw full_share S'.mir l₄ 0 (val h)) $
          owned ! S.the_row (Is S.the_row) (LL.makes S.the_type S'.the_plain 𝓛) h (vals h) was $
          move ! (1 ∷ 0 ∷ []) $ fjoin ! $
          fpack ! (List Val) (λ us. fsep (cell_at full_share (S.the_row).mir us l₄ 0) ((S.the_row).own_val h us)) (vals h) $
          lft_new ! tt (λ α. move ! (1 ∷ []) $
          use1 𝓛 (later (some (λ (δ : GName). ‵ (own-ref l₄ α δ) ⊛ ‵ (flent (α ∷ []) (Body (mem S.the_row) l₄ 0 δ)))))
          (lends_ref 𝓛 S.the_row (named 0) (α ∷ []) h l₄ 0) $ await ! tt $ pick ! (λ δ. split ! $
          -- [the reference; the lender's part; the token; _6; _5; the end of _4; _3; _2; _1; _0]
          use0 𝓛 (‵ (numbers x n)) (numbers-owned 𝓛 x n fits-x fits-n) $ move ! (3 ∷ 1 ∷ 0 ∷ []) $
          use3 𝓛 (raw ((Lent 𝓤 update 𝓛).pre (at_call l₄ α δ))) (asked l₄ α δ) $
          calls_at ! fm (Lent 𝓤 update 𝓛) known (at_call l₄ α δ)
          (and_then ! (load ! (from ! (stop !)) (look ! 2 refl)) (and-numbers ! pass
          (load ! (from ! (stop !)) (look ! 9 refl)) (load ! (from ! (stop !)) (look ! 7 refl)))) (λ v.
          use1 𝓛 (later (given (v ≡ vunit) (‵ (flft (α ∷ []) full_share) ⊛ ‵ (fres δ ((S.the_row).coded.code back)))))
          (gives l₄ α δ v) $ await ! tt $ learn ! (λ e. split ! $
          -- [the token; the last value; the lender's part; _6; _5; the end of _4; _3; _2; _1; _0]
          land ! (from ! (stop !)) (init ! 5 refl (subst (λ (y : Val). T (has_ty ty_unit y) × WT y) (sym e) (tt, tt))) $
          lft_end ! tt $ move ! (0 ∷ 2 ∷ 1 ∷ []) $ use3 𝓛 (later (‵ (part_at S.the_row full_share back l₄ 0)))
          (ref_back 𝓛 S.the_row (α ∷ []) δ back l₄ 0) $ await ! tt $ fpick ! (λ vs. fsplit ! $
          spelt ! S.the_row (Is S.the_row) (shows 𝓛 S.the_row) vals (LL.tells S.the_type S'.the_laws) full_share back
          vs l₄ 0 $ move ! (1 ∷ []) $
          peeks ! S.the_row (Is S.the_row) (shows 𝓛 S.the_row) back (vals back) (λ is. move ! (1 ∷ 0 ∷ []) $
          use1 𝓛 (‵ (fat full_share S'.mir l₄ 0 (val back))) (𝓛.laws.raw_at full_share S'.mir l₄ 0 (val back)) $
          -- [_4; what it owns; _6; _5; the end of _4; _3; _2; _1; _0]
          assigns ! (of_opd ! (load ! (from ! (stop !)) (look ! 0 refl))) (from ! (stop !))
          (init ! 13 refl (typed 𝓛 back _ is)) $
          returns ! (look ! 13 refl) $ forget ! 0 refl $ forget ! 2 refl $ forget ! 4 refl $ forget ! 7 refl $
          forget ! 9 refl $ forget ! 11 refl $ forget ! 13 refl $
          move ! (13 ∷ 14 ∷ []) $ free1 ! $ move ! (11 ∷ 12 ∷ []) $ free1 ! $ move ! (9 ∷ 10 ∷ []) $ free1 ! $
          move ! (7 ∷ 8 ∷ []) $ free1 ! $ move ! (0 ∷ 6 ∷ []) $ free1 ! $ move ! (3 ∷ 4 ∷ []) $ free1 ! $
          move ! (1 ∷ 2 ∷ []) $ free1 ! $ free0 ! $ keep ! (0 ∷ []) $ by ! (exits was fits-x fits-n))))))))))))))

  goes : AllGo 𝓛 0 value.signature.params value.kept stayed
  goes = (
    Goes-none 𝓛 0 (λ _. S.the_row) yes (λ κs x f. refl),
    (
      Goes-none 𝓛 0 (λ _. usize) yes (λ κs x f. refl),
      (Goes-none 𝓛 0 (λ _. usize) yes (λ κs x f. refl), tt),
    ),
  )

  -- of any function whose code is this
  pub value-meets : (e : Fn) → e ≡ value-code k i j → (𝓣 : Tables 𝓤 H) → Triple 𝓤 (𝓣.C k) (Lent 𝓤 update 𝓛)
      → Meets 𝓛 value.signature (WpFn 𝓤 H 𝓣.C 𝓣.Λ e) (closing 𝓛 value (value-clauses 𝓤 update))
  value-meets e same 𝓣 known =
      let run = WpFn 𝓤 H 𝓣.C 𝓣.Λ (value-code k i j) in
      subst
      (λ (f : Fn). Meets 𝓛 value.signature (WpFn 𝓤 H 𝓣.C 𝓣.Λ f)
      (closing 𝓛 value (value-clauses 𝓤 update)))
      (sym same)
      (walk_Meets 𝓛 value stayed goes (value-clauses 𝓤 update) run (WpFn-mono 𝓤 H 𝓛.laws 𝓣 (value-code k i j))
      (walked 𝓛 value stayed (value-clauses 𝓤 update) run (λ κs. (vals, (uint_vals w64, (uint_vals w64, tt))))
      (λ κs. (LL.tells S.the_type S'.the_laws, (uint_Tells w64, (uint_Tells w64, tt))))
      (λ κs qs bounds a _ are. needs 𝓤 _ _ (λ ok. walk a.0 a.1.0 a.1.1.0 ok 𝓣.C 𝓣.Λ
      (fm_of 𝓤 H 𝓛.laws 𝓣) known are.0 are.1.0.1 are.1.1.0.1))))
