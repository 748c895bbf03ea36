-- Laws of the test of a page: by case, as the code ends or goes on; it is the test over the page's records. Assumes
-- nothing.
use Prim.Native.Nat.{ℕ, zero, suc, ◌+◌, ◌-◌, ◌*◌, ◌/◌, ◌^◌, ◌≤◌, ◌<◌}
use mathlib.Core.Path.{◌≡◌, refl, sym, ap, ◌∙◌, subst}
use mathlib.Core.Bool.{Bool, true, false, ◌&&◌, and-false}
use mathlib.Core.List.{List}
use native.Mathlib.Omega.{arith}
use lib.Dec.{leb, eqb}
use lib.ListN.{length}
use borrow.Author.Tests.{le-leb, lt-leb, eq-eqb, eqb-true}
use Rattle.lists.proofs.Bools.{and_split}
use Rattle.shape.specs.Shape.{shape_number, total, index_fits}
use Rattle.shape.specs.declared.Shape.{Shape}
use Rattle.split.specs.Bits.{split_bit}
use Rattle.record.specs.Record.{Record}
use Rattle.record.specs.Bytes.{record_size, field, record_of}
use Rattle.record.specs.Lanes.{bias_key}
use Rattle.record.specs.Packed.{unpacked_key}
use Rattle.record.proofs.ByteLaws.{AreBytes}
use Rattle.page.specs.Page.{count_of, records_from, records_of}
use Rattle.page.specs.Fields.{code_at}
use Rattle.page.proofs.FieldLaws.{length-records_from}
use Rattle.key_order.specs.Order.{first_step}
use Rattle.check_test.specs.Codes.{code, record_here, chain_after, chain, page_chain}
use Rattle.check_page.specs.PageTest.{encodings_at, key_code, record_passes, records_after, records_pass, page_passes}
use Rattle.check_page.specs.PageTest.{ascend_after, all_fit, ascending}
use Rattle.check_page.proofs.AscendLaws.{last_code, last_code-at, both, last_begins, records_after-ascend}
use Rattle.check_page.proofs.ByteLaws.{key-record_of, unpacked_key-code_at}
use Rattle.check_page.proofs.CodeLaws.{begins-same, begins-other}

-- ---- by case

module _ (ws : List ℕ) (b x s bias : ℕ) (page : List ℕ) (n : ℕ) (count : n ≡ count_of page) where
  pub page_passes-none : n ≡ 0 → false ≡ page_passes ws b x s bias page
  unfolding page_passes
  page_passes-none e = sym (rw (sym count ∙ e) (and-false (leb 0 b)))

  pub page_passes-over : b < n → false ≡ page_passes ws b x s bias page
  unfolding page_passes
  page_passes-over h = sym (rw (← count, lt-leb n b h))

  module _ (some : n ≡ 0 → ⊥) (most : n ≤ b) where
    first : page_passes ws b x s bias page
        ≡ (record_passes ws x s (encodings_at bias page 2)
        && records_after ws x s bias page (key_code ws (encodings_at bias page 2)) (n - 1) (2 + record_size))
    unfolding page_passes
    first =
        let e : n ≡ suc (n - 1) = omega arith in
        rw (← count, le-leb n b most) (ap (records_pass ws x s bias page) e)

    abbrev begun : List ℕ → Type 0
    begun key = key_code ws key / 2 ^ (total ws - x) ≡ s

    module _ (key : List ℕ) (at : key ≡ encodings_at bias page 2) where
      gone : (φ γ ρ : Bool) → γ ≡ false → ((φ && γ) && ρ) ≡ false
      gone true γ ρ e = rw e
      gone false γ ρ e = refl

      pub page_passes-first : eqb (key_code ws key / 2 ^ (total ws - x)) s ≡ false → false ≡ page_passes ws b x s bias page
      page_passes-first e =
          let here = ap (λ q. eqb (key_code ws q / 2 ^ (total ws - x)) s) (sym at) ∙ e in
          sym (first ∙ gone (index_fits ws (encodings_at bias page 2)) _ _ here)

      module _ (begins : begun key) (last : List ℕ) (end : last ≡ encodings_at bias page (2 + record_size * (n - 1))) where
        abbrev c : ℕ
        c = key_code ws (encodings_at bias page 2)

        begins-first : begun (encodings_at bias page 2)
        begins-first = subst begun at begins

        last_code-last : last_code ws x s bias page c (n - 1) (2 + record_size) ≡ key_code ws last
        last_code-last = last_code-at ws x s bias page (n - 1) 2 ∙ ap (key_code ws) (sym end)

        pub page_passes-last : (begun last → ⊥) → false ≡ page_passes ws b x s bias page
        page_passes-last other = go (page_passes ws b x s bias page) refl
          where
            go : (β : Bool) → page_passes ws b x s bias page ≡ β → false ≡ β
            go true e =
                let k = and_split (record_passes ws x s (encodings_at bias page 2)) _ (sym first ∙ e) in
                let l = last_begins ws x s bias page (n - 1) c (2 + record_size) begins-first k.1 in
                absurd (other (ap (λ y. y / 2 ^ (total ws - x)) (sym last_code-last) ∙ l))
            go false e = refl

        pub page_passes-ascends : begun last → ascending ws bias page n ≡ page_passes ws b x s bias page
        unfolding ascending
        page_passes-ascends ends =
            let e : suc (n - 1) ≡ n = omega arith in
            let l = ap (λ y. y / 2 ^ (total ws - x)) last_code-last ∙ ends in
            let rest = records_after ws x s bias page c (n - 1) (2 + record_size) in
            let rise = ascend_after ws bias page c (n - 1) (2 + record_size) in
            let fits = index_fits ws (encodings_at bias page 2) in
            let fit = all_fit ws bias page (n - 1) (2 + record_size) in
            sym
            (first
            ∙ ap (λ β. (fits && β) && rest) (eq-eqb (c / 2 ^ (total ws - x)) s begins-first)
            ∙ both ws x s bias page fits rise fit rest
            (records_after-ascend ws x s bias page (n - 1) c (2 + record_size) begins-first l)
            ∙ ap (λ k. rise && all_fit ws bias page k 2) e)

-- ---- by the keys of the first and of the last record, as they are read

module _ (ws : List ℕ) (b x s bias : ℕ) (page : List ℕ) (bytes : AreBytes page) (within : x ≤ total ws) (n : ℕ)
    (count : n ≡ count_of page) (some : n ≡ 0 → ⊥) (most : n ≤ b) (first : ℕ) (read : first ≡ code_at bias page 0) where
  at-first : unpacked_key first ≡ encodings_at bias page 2
  at-first = ap unpacked_key read ∙ unpacked_key-code_at page bytes bias 0

  abbrev begins : Bool
  begins = eqb (key_code ws (unpacked_key first) / 2 ^ (total ws - x)) s

  pub page_passes-other : false ≡ begins → false ≡ page_passes ws b x s bias page
  page_passes-other e = page_passes-first ws b x s bias page n count some most (unpacked_key first) at-first (sym e)

  module _ (e : true ≡ begins) (last : ℕ) (read-last : last ≡ code_at bias page (n - 1)) (step : ℕ)
      (told : step ≡ first_step ws (unpacked_key first) (unpacked_key last)) where
    begun-first : begun ws b x s bias page n count some most (unpacked_key first)
    begun-first = eqb-true _ _ (sym e)

    at-last : unpacked_key last ≡ encodings_at bias page (2 + record_size * (n - 1))
    at-last = ap unpacked_key read-last ∙ unpacked_key-code_at page bytes bias (n - 1)

    pub page_passes-parted : step < x → false ≡ page_passes ws b x s bias page
    page_passes-parted h =
        page_passes-last ws b x s bias page n count some most (unpacked_key first) at-first begun-first (unpacked_key last)
        at-last
        (λ k. begins-other ws (unpacked_key first) (unpacked_key last) x within (omega (arith, told)) (begun-first ∙ sym k))

    pub page_passes-alike : x ≤ step → ascending ws bias page n ≡ page_passes ws b x s bias page
    page_passes-alike h =
        page_passes-ascends ws b x s bias page n count some most (unpacked_key first) at-first begun-first (unpacked_key last)
        at-last
        (sym (begins-same ws (unpacked_key first) (unpacked_key last) x within (omega (arith, told))) ∙ begun-first)

-- ---- over the page's records

module _ (sh : Shape) (good : shape_number sh ≡ 0) (ws : List ℕ) (b x s : ℕ) (page : List ℕ) where
  abbrev bias : ℕ
  bias = bias_key sh

  abbrev code_of : Record → ℕ
  code_of r = code (total ws) 0 (split_bit ws r.key)

  abbrev fits : Record → Bool
  fits r = eqb (length r.key) 4 && index_fits ws r.key

  abbrev at : ℕ → Record
  at offset = record_of sh (field page offset record_size)

  code_of-at : (offset : ℕ) → code_of (at offset) ≡ key_code ws (encodings_at bias page offset)
  unfolding key_code
  code_of-at offset = ap (key_code ws) (key-record_of sh good page offset)

  record_here-at : (offset : ℕ)
      → record_here code_of fits (total ws) b x s (at offset) ≡ record_passes ws x s (encodings_at bias page offset)
  unfolding key_code
  record_here-at offset =
      ap (λ key. (eqb (length key) 4 && index_fits ws key) && eqb (key_code ws key / 2 ^ (total ws - x)) s)
      (key-record_of sh good page offset)

  chain_after-records_after : (n offset c : ℕ)
      → chain_after code_of fits (total ws) b x s c (records_from sh n offset page) ≡ records_after ws x s bias page c n offset
  chain_after-records_after zero offset c = refl
  chain_after-records_after (suc n) offset c =
      rw (
        record_here-at offset,
        code_of-at offset,
        chain_after-records_after n (offset + record_size) (key_code ws (encodings_at bias page offset)),
      )

  chain-records_pass : (n : ℕ)
      → chain code_of fits (total ws) b x s (records_from sh n 2 page) ≡ records_pass ws x s bias page n
  chain-records_pass zero = refl
  chain-records_pass (suc n) =
      rw (record_here-at 2, code_of-at 2, chain_after-records_after n (2 + record_size) (key_code ws (encodings_at bias page 2)))

  pub page_chain-page_passes :
      page_chain code_of fits (total ws) b x s (records_of sh page) ≡ page_passes ws b x s bias page
  unfolding page_passes
  page_chain-page_passes = rw (length-records_from sh (count_of page) 2 page, chain-records_pass (count_of page))
