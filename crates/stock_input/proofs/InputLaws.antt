-- Laws of input that is read byte by byte: a line that ends, a byte of a line, and a run over a piece. Assumes nothing.
use Prim.Native.Nat.{ℕ, suc, ◌+◌, ◌≤◌, ◌<◌}
use mathlib.Core.Path.{◌≡◌, refl, ap, ◌∙◌}
use mathlib.Core.Bool.{Bool, true, false, cond}
use mathlib.Core.List.{List, ◌++◌}
use native.Mathlib.Omega.{arith}
use lib.Dec.{eqb}
use lib.ListN.{get_or, length, length-append, length-take, take}
use Rattle.stock_line.specs.LineBytes.{start, fed, closed, opened, added}
use Rattle.stock_line.specs.declared.Reading.{Reading}
use Rattle.stock_text.specs.Text.{Grown}
use Rattle.stock_console.specs.Console.{StockMemory}
use Rattle.stock_input.specs.Input.{standing, Stepped, Ran, Standable}
use Rattle.stock_input.specs.declared.Progress.{Progress}

-- ---- at most seven fields are counted

opened-fields : (r : Reading) → (opened r).fields ≤ 7
unfolding opened
opened-fields r = omega arith

added-fields : (r : Reading) (c : ℕ) → r.fields ≤ 7 → (added r c).fields ≤ 7
unfolding added
added-fields r c h = by-test (eqb r.fields 0) refl
  where
    by-test : (β : Bool) → eqb r.fields 0 ≡ β → (added r c).fields ≤ 7
    by-test true e = rw e (omega arith)
    by-test false e = rw e h

pub fed-fields : (r : Reading) (c : ℕ) → r.fields ≤ 7 → (fed r c).fields ≤ 7
unfolding fed
fed-fields r c h = by-space (eqb c 32)
  where
    by-space : (β : Bool) → (cond β (opened (closed r)) (added r c)).fields ≤ 7
    by-space true = opened-fields (closed r)
    by-space false = added-fields r c h

pub start-fields : start.fields ≤ 7
unfolding start
start-fields = omega arith

-- ---- one byte

-- the text ends within what is lent
pub Grown-within : (entry exit bytes : List ℕ) (at end : ℕ) → at ≤ length entry → Grown entry at bytes exit end
    → end ≤ length exit
Grown-within entry exit bytes at end h g =
    let both : length (take end exit) ≡ length (take at entry ++ bytes) = ap length g.text-is in
    omega (arith, both, g.end_is, length-append (take at entry) bytes, length-take end exit, length-take at entry)

-- ---- a run

-- what holds behind some bytes of a piece
pub record Running (piece : List ℕ) (from : ℕ) (p : Progress) (m : StockMemory) (text : List ℕ) (next : ℕ)
    (p' : Progress) (m' : StockMemory) (text' : List ℕ) : Type 0 where
  pub count : ℕ
  pub next-is : next ≡ from + count
  pub next-within : next ≤ length piece
  pub ran : Ran piece from count (standing p m text) (standing p' m' text')
  pub stands : Standable p' text'
  pub same_length : length text' ≡ length text
  pub first : count ≡ 0 → p'.end ≡ p.end

module _ (piece : List ℕ) (from : ℕ) (p : Progress) (m : StockMemory) (text : List ℕ) where
  module _ (next : ℕ) (p' : Progress) (m' : StockMemory) (text' : List ℕ)
      (r : Running piece from p m text next p' m' text') where
    pub running-step : (p'' : Progress) (m'' : StockMemory) (text'' : List ℕ) → next < length piece
        → Stepped (get_or piece next 0) (standing p' m' text') (standing p'' m'' text'') → Standable p'' text''
        → length text'' ≡ length text' → Running piece from p m text (next + 1) p'' m'' text''
    running-step p'' m'' text'' h stepped s e =
        record {
          count = suc r.count;
          next-is = omega (arith, r.next-is);
          next-within = omega arith;
          ran = (standing p' m' text', r.ran, rw (← r.next-is) stepped);
          stands = s;
          same_length = e ∙ r.same_length;
          first = λ z. absurd (omega arith);
        }
