-- Wrong answers of a call that is given a shape, whatever the call (document 02, request 7). Assumes nothing.
use Rattle.std.specs.Prelude.{ℕ, ◌≤◌, ◌<◌, ◌≡◌, true, false}
use Rattle.shape.specs.Refusal.{Answer, accepted, refused, refused_with}
use Rattle.shape.specs.Shape.{count_fits, capacity_fits, in_bounds, bad_width, lowest_bad}
use Rattle.shape.specs.declared.Shape.{Shape}

-- each contradicts what a call that is given the shape s promises of its answer
pub record ShapeFaults {A : Type 0} (s : Shape) (Promised : Answer A → Type 0) : Type 0 where
  -- "the lowest where there are several": the highest, or any other above the lowest; or one whose width is not bad, or
  -- that is past d
  pub higher : (i j : ℕ) → i < j → bad_width s i ≡ true → Promised (refused_with 14 j) → ⊥
  pub not-bad : (j : ℕ) → bad_width s j ≡ false → Promised (refused_with 14 j) → ⊥
  pub not-lowest : (j : ℕ) → (j ≡ lowest_bad s → ⊥) → Promised (refused_with 14 j) → ⊥
  -- a good shape is refused: by a width past d, say
  pub good-as-one : in_bounds s ≡ true → Promised (refused 1) → ⊥
  pub good-as-fourteen : in_bounds s ≡ true → (j : ℕ) → Promised (refused_with 14 j) → ⊥
  pub good-as-fifteen : in_bounds s ≡ true → Promised (refused 15) → ⊥
  -- "Number 1 remains for the attribute count": 1 for a bad width or capacity
  pub count-good : count_fits s ≡ true → Promised (refused 1) → ⊥
  -- "14 .., after 1; then 15 ..; both before 2": 14 or 15 before 1, 15 before 14, 2 before any; or another number, as 3,
  -- 9 or a load's 13, but not its 12; or 5 with a depth
  pub fourteen-before-one : count_fits s ≡ false → (j : ℕ) → Promised (refused_with 14 j) → ⊥
  pub fifteen-before-one : count_fits s ≡ false → Promised (refused 15) → ⊥
  pub fifteen-before-fourteen : (j : ℕ) → bad_width s j ≡ true → Promised (refused 15) → ⊥
  pub two-before-one : count_fits s ≡ false → Promised (refused 2) → ⊥
  pub two-before-fourteen : (j : ℕ) → bad_width s j ≡ true → Promised (refused 2) → ⊥
  pub two-before-fifteen : capacity_fits s ≡ false → Promised (refused 2) → ⊥
  pub later_first : in_bounds s ≡ false → (n : ℕ) → 2 ≤ n → n ≤ 13 → (n ≡ 12 → ⊥) → Promised (refused n) → ⊥
  pub depth-first : in_bounds s ≡ false → (x : ℕ) → Promised (refused_with 5 x) → ⊥
  -- "A bad width names its attribute": 14 without one; 1 or 15 with one
  pub no-attribute : Promised (refused 14) → ⊥
  pub one-with-attribute : (x : ℕ) → Promised (refused_with 1 x) → ⊥
  pub fifteen-with-attribute : (x : ℕ) → Promised (refused_with 15 x) → ⊥
  -- a bad shape is accepted
  pub bad-accepted : in_bounds s ≡ false → (r : A) → Promised (accepted r) → ⊥
