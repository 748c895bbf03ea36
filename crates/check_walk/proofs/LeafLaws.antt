-- Laws of a leaf's page: where it lies in the lent bytes; what is told of it, by case. Assumes nothing.
use Prim.Native.Nat.{ℕ, suc, ◌+◌, ◌-◌, ◌*◌, ◌≤◌, ◌<◌}
use mathlib.Core.Path.{◌≡◌, refl, sym, ap, ◌∙◌, subst}
use mathlib.Core.Bool.{Bool, true, false, cond, not, false≢true}
use mathlib.Core.List.{List}
use native.Mathlib.Omega.{arith}
use lib.ListN.{length, take, drop}
use Rattle.std.specs.Prelude.{Option, Some, None}
use borrow.Author.Tests.{ne_eqb}
use Rattle.lists.specs.Filter.{non_empty}
use Rattle.shape.specs.Shape.{shape_number, total}
use Rattle.region.specs.Division.{leaf}
use Rattle.record.specs.Record.{Record}
use Rattle.record.specs.Lanes.{bias_key}
use Rattle.record.proofs.ByteLaws.{length-field}
use Rattle.page.specs.Page.{page_size, count_of, records_of, page_at}
use Rattle.page.proofs.FieldLaws.{length-records_from}
use Rattle.store.specs.declared.State.{State}
use Rattle.check_test.specs.Walk.{View, field_records, page_test}
use Rattle.check_test.proofs.CodeLaws.{page_test-chain}
use Rattle.check_test.proofs.ShowsLaws.{non_empty-records_from}
use Rattle.check_page.specs.PageTest.{page_passes, TestedPage}
use Rattle.page.proofs.PartLaws.{page-end-le, mid_of-page}
use Rattle.check_page.proofs.PageLaws.{page_passes-none, page_chain-page_passes}
use Rattle.check_seen.specs.declared.Seen.{Seen}
use Rattle.check_seen.specs.Seen.{page_seen}
use Rattle.check_walk.specs.declared.regions.Region.{Region}
use Rattle.check_walk.specs.Regions.{RegionNamed, RegionIn}
use Rattle.check_walk.specs.Sums.{view_by, Sees, PageAsked, Walks}
use Rattle.check_walk.proofs.SumLaws.{sees-some, sees-none}

-- ---- where it lies

module _ (st : State) (ws : List ℕ) (r : Region) where
  pub page_asked-walks : (words bytes : ℕ) → Walks st ws words bytes r → PageAsked st ws bytes r
  page_asked-walks words bytes w = record {
    shape = w.shape;
    fit = w.directory.fit;
    bits = omega (arith, w.within, w.directory.deep);
    region = w.region;
    capacity = w.capacity;
    pages-lent = w.pages-lent;
  }

  pub page-within : (bytes g : ℕ) → PageAsked st ws bytes r → g < st.limits.pages
      → g * page_size st.shape.capacity + page_size st.shape.capacity ≤ bytes
  page-within bytes g a h =
      omega (arith, a.pages-lent, page-end-le st.shape.capacity g st.limits.pages h)

  pub page_lent-part : (bytes : List ℕ) (g : ℕ) → PageAsked st ws (length bytes) r → g < st.limits.pages
      → let b = st.shape.capacity in
      let start = g * page_size b in
      TestedPage ws b r.depth (length (take (start + page_size b - start) (drop start bytes)))
  page_lent-part bytes g a h =
      let b = st.shape.capacity in
      record {
        fit = a.fit;
        within = a.bits;
        whole = ap length (mid_of-page b g (g * page_size b) (page_size b) bytes refl refl)
            ∙ length-field bytes (g * page_size b) (page_size b) (page-within (length bytes) g a h);
      }

-- ---- a side of a region

pub sub-walks : (st : State) (ws : List ℕ) (words bytes : ℕ) (r : Region) → Walks st ws words bytes r → (side : Region)
    → RegionIn ws side → side.depth ≡ r.depth + 1 → r.depth < st.deepest → Walks st ws words bytes side
sub-walks st ws words bytes r w side i d l = record {
  shape = w.shape;
  directory = w.directory;
  within = omega arith;
  region = i;
  capacity = w.capacity;
  pages-lent = w.pages-lent;
}

-- ---- what is told of it

module _ (st : State) (ws words bytes : List ℕ) (r : Region) (p : ℕ → Bool) (n : RegionNamed ws r p) (f : ℕ) where
  abbrev v : View Record
  v = view_by ws st words bytes

  abbrev Told : Option Seen → Type 0
  Told told = Sees (page_test v p r.depth f) (leaf (field_records v f)) told

  module _ (some : f ≡ 0 → ⊥) where
    field : f ≡ suc (f - 1)
    field = omega arith

    module _ (good : shape_number st.shape ≡ 0) (number : f - 1 < st.limits.pages) (bits : r.depth ≤ total ws) where
      abbrev b : ℕ
      b = st.shape.capacity

      abbrev page : List ℕ
      page = page_at st.shape.capacity bytes (f - 1)

      abbrev passes : Bool
      passes = page_passes ws b r.depth r.string (bias_key st.shape) page

      test : page_test v p r.depth f ≡ passes
      test =
          ap (page_test v p r.depth) field
          ∙ page_test-chain v r.depth r.string p n.string bits (f - 1) number
          ∙ page_chain-page_passes st.shape good ws b r.depth r.string page

      -- a page that passes has a record
      filled : passes ≡ true → non_empty (records_of st.shape page) ≡ true
      filled e = non_empty-records_from st.shape (count_of page) 2 page ∙ ap not (ne_eqb (count_of page) 0 none)
        where
          none : count_of page ≡ 0 → ⊥
          none z =
              false≢true
              (page_passes-none ws b r.depth r.string (bias_key st.shape) page (count_of page) refl z ∙ e)

      told : (γ : Bool) → passes ≡ γ
          → Sees γ (leaf (records_of st.shape page))
          (cond γ (Some (record { records = count_of page; pages = 1; depth = 0 })) None)
      told true e =
          sees-some (leaf (records_of st.shape page)) (record { records = count_of page; pages = 1; depth = 0 })
          (record {
            records = sym (length-records_from st.shape (count_of page) 2 page);
            pages = rw (filled e) refl;
            depth = refl;
          })
      told false e = sees-none false (leaf (records_of st.shape page)) refl

      pub page-told : (seen : Option Seen) → seen ≡ page_seen ws b r.depth r.string (bias_key st.shape) page
          → Told seen
      unfolding page_seen
      page-told seen e =
          subst (λ β. Sees β (leaf (field_records v f)) seen) (sym test)
          (subst (λ y. Sees passes (leaf (field_records v y)) seen) (sym field)
          (subst (λ y. Sees passes (leaf (records_of st.shape page)) y) (sym e) (told passes refl)))
