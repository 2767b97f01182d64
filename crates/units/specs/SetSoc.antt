-- Document 01, module 2: "`SetSoc` multiplies by 10 in f32, rounds halves away from zero, then limits to 0..1000; NaN gives 0." Definitions only.
-- A finite `Float`, `fin s m e`, is ±m * 2 ^ e, which is ±(m * up e) / down e.
use Rattle.std.specs.Prelude.{ℕ, ◌+◌, ◌*◌, ◌/◌, min, Bool, cond, ℤ, pos, negsuc, neg_ℤ, Float}
use Rattle.std.specs.Float.{nan, inf, fin, binary32}
use Rattle.std.specs.Float.Ieee.{up, down, of_int, mul}

-- a / b to the nearest whole number, a half upwards: the whole part of a / b + 1 / 2
unfoldable pub half_up : ℕ → ℕ → ℕ
half_up a b = (2 * a + b) / (2 * b)

-- "rounds halves away from zero": ±a / b
unfoldable pub half_away : Bool → ℕ → ℕ → ℤ
unfolding half_up
half_away s a b = cond s (neg_ℤ (pos (half_up a b))) (pos (half_up a b))

-- "then limits to 0..1000"
unfoldable pub limit : ℤ → ℕ
limit (pos n) = min n 1000
limit (negsuc n) = 0

-- what is sent for a product: "NaN gives 0"
unfoldable pub sent : Float → ℕ
unfolding half_away limit
sent nan = 0
sent (inf s) = cond s 0 1000
sent (fin s m e) = limit (half_away s (m * up e) (down e))

-- "multiplies by 10 in f32": one multiplication, rounded once
unfoldable pub set_soc_count : Float → ℕ
unfolding sent mul of_int
set_soc_count x = sent (mul binary32 x (of_int binary32 (pos 10)))
