use Rattle.std.proofs.Common.{◌≡◌, ℕ, ◌+◌, ◌-◌, ◌≤◌, Bool, true, false, ltb, sym, refl, arith, ltb-false, ltb-true, le-ltb, lt-ltb}
use Rattle.reader.proofs.state.passed.Goals as goal

-- what is left to 512, and the sum: the library compares no difference with a sum, and only this answer does
over : (before lost : ℕ) → before ≤ 512 → ltb (512 - before) lost ≡ ltb 512 (before + lost)
over before lost h = go (ltb (512 - before) lost) refl
  where
    go : (b : Bool) → ltb (512 - before) lost ≡ b → b ≡ ltb 512 (before + lost)
    go true e = sym (lt-ltb 512 (before + lost) (omega (arith, ltb-true (512 - before) lost e, h)))
    go false e = sym (le-ltb 512 (before + lost) (omega (arith, ltb-false (512 - before) lost e, h)))

pub returns-then-mark : goal.returns-then-mark
returns-then-mark c = rw c.if-mark.true

pub overflow_sub-result : goal.overflow_sub-result
overflow_sub-result c = c.requires c.if-mark.false

pub returns : goal.returns
returns c =
    let a = c.args in
    let h = c.requires c.if-mark.false in rw c.if-mark.false (over a.before a.lost h)
