-- The limits of a sound store (document 01, "Lent memory"). Lookup, insert, delete and query answer 9 where they do not
-- hold, and check says no. Assumes nothing.
use Rattle.std.specs.Prelude.{Bool, ◌&&◌, leb}
use Rattle.shape.specs.Shape.{within, widths_of, total}
use Rattle.store.specs.declared.State.{State}

-- "P is 1–4,096, L is at most 12 and at most W, and T is at most L"
unfoldable pub limits_hold : State → Bool
limits_hold st =
    let L = st.limits.depth in
    within 1 4096 st.limits.pages && (leb L 12 && (leb L (total (widths_of st.shape)) && leb st.deepest L))
