-- Laws of results: what a refused answer is reported as; a promise kept by what is reported; the same
-- with a depth; a query's attribute. Assumes nothing.
use Prim.Native.Nat.{ℕ, zero, suc}
use mathlib.Core.Path.{◌≡◌, refl, sym, subst}
use mathlib.Core.Option.{some}
use native.Mathlib.Omega.{arith}
use borrow.Author.Tests.{ne_eqb}
use Rattle.shape.specs.Refusal.{Answer, accepted, refused, refused_with}
use Rattle.shape.specs.Refusal.{refusal_number, attribute_beside, told}
use Rattle.shape.specs.declared.refusal.Refusal.{Refusal}
use Rattle.shape.specs.declared.refusal.Refusal.TheVariants as why
use Rattle.host_results.specs.Depthless.{depthless}
use Rattle.host_results.specs.Result.{numbered_answer, Reports, Keeps, KeepsDepth, NoDepth}
use Rattle.host_results.specs.Wanted.{wanted_if}

-- 14 alone names an attribute
pub numbered_answer-refused : {A : Type 0} (n attribute : ℕ) (x : A) → (n ≡ 0 → ⊥) → (n ≡ 14 → ⊥)
    → numbered_answer n attribute x ≡ refused n
numbered_answer-refused zero attribute x not-zero other = absurd (not-zero refl)
numbered_answer-refused (suc n) attribute x not-zero other = rw (ne_eqb n 13 (λ e. other (omega arith)))

module _ {A : Type 0} where
  -- ---- a refusal, without a depth

  reports-alone : (n : ℕ) (zeros : A) (answer : Answer A) → numbered_answer n 0 zeros ≡ answer
      → Reports n 0 zeros zeros answer
  reports-alone n zeros answer e =
      record { answer-as = e; zeros-if-refused = λ _ _. refl; attribute-if-other = λ _. refl }

  pub reports_depthless : (zeros : A) (r : Refusal)
      → Reports (refusal_number r) (attribute_beside r) zeros zeros (depthless (told r))
  reports_depthless zeros why.Shape = reports-alone 1 zeros _ refl
  reports_depthless zeros why.Memory = reports-alone 2 zeros _ refl
  reports_depthless zeros why.Value = reports-alone 3 zeros _ refl
  reports_depthless zeros why.Stored = reports-alone 4 zeros _ refl
  reports_depthless zeros (why.Absent x) = reports-alone 5 zeros _ refl
  reports_depthless zeros why.Depth = reports-alone 6 zeros _ refl
  reports_depthless zeros why.Pages = reports-alone 7 zeros _ refl
  reports_depthless zeros why.Attribute = reports-alone 8 zeros _ refl
  reports_depthless zeros why.Unsound = reports-alone 9 zeros _ refl
  reports_depthless zeros why.Interval = reports-alone 10 zeros _ refl
  reports_depthless zeros why.Payload = reports-alone 11 zeros _ refl
  reports_depthless zeros why.File = reports-alone 12 zeros _ refl
  reports_depthless zeros why.Content = reports-alone 13 zeros _ refl
  reports_depthless zeros (why.Width x) =
      record { answer-as = refl; zeros-if-refused = λ _ _. refl; attribute-if-other = λ other. absurd (other refl) }
  reports_depthless zeros why.Capacity = reports-alone 15 zeros _ refl

module _ {A : Type 0} (answer : Answer A) where
  -- ---- an answer that carries no depth

  depthless-none : NoDepth answer → depthless answer ≡ answer
  depthless-none none = go answer none
    where
      go : (a : Answer A) → NoDepth a → depthless a ≡ a
      go (accepted x) h = refl
      go (refused n) h = refl
      go (refused_with n x) h = rw (ne_eqb n 5 h)

  pub reports-whole : (number attribute : ℕ) (values zeros : A) → NoDepth answer
      → Reports number attribute values zeros (depthless answer) → Reports number attribute values zeros answer
  reports-whole number attribute values zeros none h =
      subst (Reports number attribute values zeros) (depthless-none none) h

  pub reports-refused : (zeros : A) (r : Refusal) → NoDepth answer → told r ≡ answer
      → Reports (refusal_number r) (attribute_beside r) zeros zeros answer
  reports-refused zeros r none e =
      reports-whole _ _ zeros zeros none
      (subst (λ a. Reports (refusal_number r) (attribute_beside r) zeros zeros (depthless a)) e (reports_depthless zeros r))

  -- ---- a promise

  pub keeps-reported : (Promise : Answer A → Type 0) (number attribute : ℕ) (values zeros : A) → Promise answer
      → Reports number attribute values zeros answer → Keeps number attribute values zeros Promise
  keeps-reported Promise number attribute values zeros p r =
      record {
        promise-kept = subst Promise (sym r.answer-as) p;
        zeros-if-refused = r.zeros-if-refused;
        attribute-if-other = r.attribute-if-other;
      }

-- ---- answers with a depth

module _ {A : Type 0} (Promise : Answer A → Type 0) where
  -- what holds of an answer is kept by what tells it
  pub keeps_depth-told : (answer : Answer A) (number attribute depth : ℕ) (values zeros : ℕ → A) → Promise answer
      → KeepsDepth number attribute depth values zeros (λ told. told ≡ answer)
      → KeepsDepth number attribute depth values zeros Promise
  keeps_depth-told answer number attribute depth values zeros p told =
      record {
        promise-kept = subst Promise (sym told.promise-kept) p;
        zeros-if-refused = told.zeros-if-refused;
        depth-if-refused = told.depth-if-refused;
        attribute-if-other = told.attribute-if-other;
      }

-- ---- an attribute that is given

pub wanted_if-given : (given value : ℕ) → (given ≡ 0 → ⊥) → some value ≡ wanted_if given value
wanted_if-given zero value ne = absurd (ne refl)
wanted_if-given (suc n) value ne = refl
