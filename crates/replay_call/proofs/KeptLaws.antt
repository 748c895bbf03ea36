-- Laws of one call by its kind: the store's call kept its promise, so the call of the words did. Assumes nothing.
use Prim.Native.Nat.{ℕ}
use mathlib.Core.Path.{◌≡◌, refl, sym, ap, subst}
use mathlib.Core.List.{List}
use mathlib.Core.Option.{Option}
use native.Mathlib.Omega.{arith}
use lib.ListN.{length}
use Rattle.shape.specs.Refusal.{Answer}
use Rattle.shape.specs.Range.{Interval}
use Rattle.model.specs.Model.{Call, Reply}
use Rattle.store.specs.Store.{Store, store}
use Rattle.store.specs.declared.State.{State}
use Rattle.store.specs.Promises.{InsertPromise, DeletePromise, LookupPromise, QueryPromise, RangePromise}
use Rattle.history.specs.History.{Promised}
use Rattle.replay_encoding.specs.declared.Request.{Request}
use Rattle.replay_encoding.specs.Encoding.{wanted_in, intervals_in, call_of, request_size, answer_words}
use Rattle.replay_encoding.proofs.EncodingLaws.{call_of-insert, call_of-delete, call_of-lookup, call_of-query, call_of-range}
use Rattle.replay_encoding.proofs.EncodingLaws.{no_output}
use Rattle.replay_call.specs.Promise.{CallKept}

module _ (before : Store) (r : Request) (out ws : List ℕ) (a : Answer Reply) (e-words : ws ≡ answer_words a) where
  -- by the call that the words say
  kept-as : (c : Call) (out' : List ℕ) (after : Store) → call_of r out ≡ c
      → Promised before c (record { answer = a; output = out' }) after → CallKept before (call_of r out) ws out' after
  kept-as c out' after e p =
      record {
        outcome = record { answer = a; output = out' };
        promised = subst (λ (c : Call). Promised before c (record { answer = a; output = out' }) after) (sym e) p;
        words-as = e-words;
        output-as = refl;
      }

  module _ (lent : length out ≡ request_size r (length out)) where
    pub kept-insert : (st st' : State) (words bytes : List ℕ) → r.kind ≡ 0 → st' ≡ st
        → InsertPromise before r.values (record { payload = r.payload }) a (store st words bytes)
        → CallKept before (call_of r out) ws out (store st' words bytes)
    kept-insert st st' words bytes e s p =
        let same = sym (ap (λ (x : State). store x words bytes) s) in
        kept-as _ out (store st' words bytes) (call_of-insert r out e) (
          subst (λ (x : Store). InsertPromise before r.values (record { payload = r.payload }) a x) same p,
          no_output r out (omega arith) lent,
        )

    pub kept-delete : (st st' : State) (words bytes : List ℕ) → r.kind ≡ 1 → st' ≡ st
        → DeletePromise before r.values a (store st words bytes)
        → CallKept before (call_of r out) ws out (store st' words bytes)
    kept-delete st st' words bytes e s p =
        let same = sym (ap (λ (x : State). store x words bytes) s) in
        kept-as _ out (store st' words bytes) (call_of-delete r out e)
        (subst (λ (x : Store). DeletePromise before r.values a x) same p, no_output r out (omega arith) lent)

    pub kept-lookup : r.kind ≡ 2 → LookupPromise before r.values a → CallKept before (call_of r out) ws out before
    kept-lookup e p = kept-as _ out before (call_of-lookup r out e) (p, no_output r out (omega arith) lent, refl)

  pub kept-query : (q : List (Option ℕ)) (out' : List ℕ) → r.kind ≡ 3 → q ≡ wanted_in r
      → QueryPromise before q out a out' → CallKept before (call_of r out) ws out' before
  kept-query q out' k e p =
      kept-as _ out' before (call_of-query r out k)
      (subst (λ (q : List (Option ℕ)). QueryPromise before q out a out') e p, refl)

  pub kept-range : (i : List (Option Interval)) (out' : List ℕ)
      → (r.kind ≡ 0 → ⊥) → (r.kind ≡ 1 → ⊥) → (r.kind ≡ 2 → ⊥) → (r.kind ≡ 3 → ⊥) → i ≡ intervals_in r
      → RangePromise before i out a out' → CallKept before (call_of r out) ws out' before
  kept-range i out' h0 h1 h2 h3 e p =
      kept-as _ out' before (call_of-range r out h0 h1 h2 h3)
      (subst (λ (i : List (Option Interval)). RangePromise before i out a out') e p, refl)
