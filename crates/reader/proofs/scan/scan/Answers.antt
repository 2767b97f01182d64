use Rattle.std.proofs.Common.{◌≡◌, ℕ, ◌+◌, ◌*◌, ◌<◌, ◌≤◌, List, length, get_or, drop, refl, sym, ◌∙◌, arith, length-drop, rules}
use Rattle.std.proofs.lemmas.List.{take_rest}
use Rattle.rules.specs.Rules.{wrong_sum}
use Rattle.reader.specs.View.{config, reason}
use Rattle.reader.specs.Steps.{noise_in}
use Rattle.reader.proofs.Noise.{some}
use Rattle.reader.proofs.Judge.{due_sum, stay_few}
use Rattle.reader.proofs.Parts.{window, length_window, first_of}
use Rattle.reader.proofs.Turns.{here_quiet, here-discarded, here-collected, here_end, end-complete, end-bytes, end_short}
use Rattle.reader.proofs.scan.scan.Goals as goal

pub loop-at-preserved-then-rest : goal.loop-at-preserved-then-rest
loop-at-preserved-then-rest c =
    let l = c.loop-at in
    let s : List ℕ = c.args.s.now in
    let n = c.noise_len-n.ensures in
    let e = rw (take_rest s l.at) at n.0 in
    let b = rw (take_rest s l.at) at n.1 in (
      here_quiet _ _ _ s _ _ l.at _ _ l.invariant.0 c.noise_len-n.result c.add_count.new.tally c.if-have-wanted.true e (rw c.place.ensures at c.add_count.ensures),
      omega (arith, b, length-drop l.at s, l.invariant.1),
      omega (arith, l.invariant.2),
    )

pub loop-at-smaller-then-rest : goal.loop-at-smaller-then-rest
loop-at-smaller-then-rest c =
    let l = c.loop-at in
    let s : List ℕ = c.args.s.now in
    let n = c.noise_len-n.ensures in
    let e = rw (take_rest s l.at) at n.0 in
    let b = rw (take_rest s l.at) at n.1 in
    let z = rw (take_rest s l.at) at c.if-rest.true in
    let m : 0 < noise_in (drop l.at s) = some (drop l.at s) (omega (arith, length-drop l.at s)) z in
    omega (arith, e, b, m, length-drop l.at s)

pub loop-at-preserved-in-Ok : goal.loop-at-preserved-in-Ok
loop-at-preserved-in-Ok c =
    let l = c.loop-at in
    let a = c.args in
    let s : List ℕ = a.s.now in
    let q = rw (take_rest s l.at) at c.in-Some.ensures.cases in
    let w : c.in-Some.frame.now ≡ window s l.at = q.same in
    let b : l.at + 13 ≤ length s = omega (arith, q.enough, length-drop l.at s, l.invariant.1) in
    let z : get_or s l.at 0 ≡ 0xA5 = sym (first_of s l.at) ∙ (rw (take_rest s l.at) at c.if-rest.false) in
    let k = c.staying-k.result in
    let few : k ≤ l.have = stay_few _ _ _ _ c.staying-k.ensures in
    let g = rw (w, length_window s l.at b) at c.put.ensures in
    let full : length l.frames ≡ 1105 = search rules in
    let room : 13 * k + 13 ≤ length l.frames = omega (arith, full, few, c.if-have-wanted.true, c.requires) in (
      here-collected _ _ _ s _ _ l.at _ _ l.invariant.0
          c.if-have-wanted.true b z
          k c.add_count-in-Ok.new.tally c.put.new.to (rw w at c.in-Ok.ensures.0) (rw w at c.staying-k.ensures) g room c.add_count-in-Ok.ensures,
      b,
      omega (arith, l.invariant.2),
    )

pub loop-at-preserved-then-not-is_summed : goal.loop-at-preserved-then-not-is_summed
loop-at-preserved-then-not-is_summed c =
    let l = c.loop-at in
    let s : List ℕ = c.args.s.now in
    let q = rw (take_rest s l.at) at c.in-Some.ensures.cases in
    let w : c.in-Some.frame.now ≡ window s l.at = q.same in
    let b : l.at + 13 ≤ length s = omega (arith, q.enough, length-drop l.at s, l.invariant.1) in
    let z : get_or s l.at 0 ≡ 0xA5 = sym (first_of s l.at) ∙ (rw (take_rest s l.at) at c.if-rest.false) in
    let u = rw w at (sym c.is_summed.ensures ∙ c.if-not-is_summed.true) in (
      here-discarded _ _ _ s _ _ l.at _ _ l.invariant.0
          c.if-have-wanted.true b z
          wrong_sum c.place-then-not-is_summed.result 1 c.add_count-then-not-is_summed.new.tally (due_sum _ _ _ u) c.place-then-not-is_summed.ensures refl c.add_count-then-not-is_summed.ensures,
      omega (arith, b),
      omega (arith, l.invariant.2),
    )

pub judge-requires : goal.judge-requires
judge-requires c = (omega (arith, c.if-have-wanted.true, c.requires), sym c.is_summed.ensures ∙ c.if-not-is_summed.false)

pub loop-at-preserved : goal.loop-at-preserved
loop-at-preserved c =
    let l = c.loop-at in
    let s : List ℕ = c.args.s.now in
    let q = rw (take_rest s l.at) at c.in-Some.ensures.cases in
    let w : c.in-Some.frame.now ≡ window s l.at = q.same in
    let b : l.at + 13 ≤ length s = omega (arith, q.enough, length-drop l.at s, l.invariant.1) in
    let z : get_or s l.at 0 ≡ 0xA5 = sym (first_of s l.at) ∙ (rw (take_rest s l.at) at c.if-rest.false) in (
      here-discarded _ _ _ s _ _ l.at _ _ l.invariant.0
          c.if-have-wanted.true b z
          (reason c.in-Err.why) c.place-in-Err.result 13 c.add_count-in-Err.new.tally (rw w at c.in-Err.ensures.0) c.place-in-Err.ensures (sym c.in-Err.ensures.1) c.add_count-in-Err.ensures,
      b,
      omega (arith, l.invariant.2),
    )

pub returns-else-have-wanted : goal.returns-else-have-wanted
returns-else-have-wanted c =
    let l = c.loop-at in
    let a = c.args in
    here_end _ _ _ a.s.now _ _ l.at _ _ l.invariant.0 (end-complete (config a.command a.wanted a.strict) a.s.now l.frames l.have l.at c.if-have-wanted.false) l.invariant.1 l.invariant.2

pub returns-after-loop-at : goal.returns-after-loop-at
returns-after-loop-at c =
    let l = c.loop-at in
    let a = c.args in
    here_end _ _ _ a.s.now _ _ l.at _ _ l.invariant.0 (end-bytes (config a.command a.wanted a.strict) a.s.now l.frames l.have l.at c.loop-at-test.false) l.invariant.1 l.invariant.2

pub returns-in_default : goal.returns-in_default
returns-in_default c =
    let l = c.loop-at in
    let a = c.args in
    let s : List ℕ = a.s.now in
    let q = rw (take_rest s l.at) at c.in_default.ensures.cases in
    let z : get_or s l.at 0 ≡ 0xA5 = sym (first_of s l.at) ∙ (rw (take_rest s l.at) at c.if-rest.false) in
    here_end _ _ _ s _ _ l.at _ _ l.invariant.0 (end_short (config a.command a.wanted a.strict) s l.frames l.have l.at c.if-have-wanted.true (omega (arith, q, length-drop l.at s)) z) l.invariant.1 l.invariant.2
