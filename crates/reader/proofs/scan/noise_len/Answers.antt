use Rattle.std.proofs.Common.{◌≡◌, ◌-◌, ◌*◌, ℕ, List, length, take, drop, ◌∙◌, arith, ap, length-drop}
use Rattle.std.proofs.lemmas.List.{take_rest}
use Rattle.std.specs.Option.{unwrap_or}
use Rattle.std.specs.List.{prefix_len}
use Rattle.reader.specs.Steps.{noise_in}
use Rattle.reader.proofs.Noise.{few, found, quiet, blocks_passed}
use Rattle.reader.proofs.scan.noise_len.Goals as goal

pub overflow_mul-quiet : goal.overflow_mul-quiet
overflow_mul-quiet c =
    record { fits = omega (arith, (blocks_passed c.args.s.now c.quiet_blocks-quiet.result (c.quiet_blocks-quiet.ensures ∙ ap (prefix_len quiet) c.as_chunks.ensures.front)).1) }

pub slice_bounds-rest-count : goal.slice_bounds-rest-count
slice_bounds-rest-count c =
    (blocks_passed c.args.s.now c.quiet_blocks-quiet.result (c.quiet_blocks-quiet.ensures ∙ ap (prefix_len quiet) c.as_chunks.ensures.front)).1

pub slice_bounds-rest-start : goal.slice_bounds-rest-start
slice_bounds-rest-start c =
    (blocks_passed c.args.s.now c.quiet_blocks-quiet.result (c.quiet_blocks-quiet.ensures ∙ ap (prefix_len quiet) c.as_chunks.ensures.front)).1

pub overflow_add-result : goal.overflow_add-result
overflow_add-result c =
    let s : List ℕ = c.args.s.now in
    let n : ℕ = c.quiet_blocks-quiet.result in
    let h = blocks_passed s n (c.quiet_blocks-quiet.ensures ∙ ap (prefix_len quiet) c.as_chunks.ensures.front) in
    let p : List ℕ = take (length s - 32 * n) (drop (32 * n) s) in
    let e : c.unwrap_or.result ≡ noise_in (drop (32 * n) s) =
    c.unwrap_or.ensures ∙ ap (λ r. unwrap_or r (length p)) c.start_in.ensures ∙ found p ∙ ap noise_in (take_rest s (32 * n)) in
    record { fits = omega (arith, e, few (drop (32 * n) s), length-drop (32 * n) s, h.1) }

pub returns : goal.returns
returns c =
    let s : List ℕ = c.args.s.now in
    let n : ℕ = c.quiet_blocks-quiet.result in
    let h = blocks_passed s n (c.quiet_blocks-quiet.ensures ∙ ap (prefix_len quiet) c.as_chunks.ensures.front) in
    let p : List ℕ = take (length s - 32 * n) (drop (32 * n) s) in
    let e : c.unwrap_or.result ≡ noise_in (drop (32 * n) s) =
    c.unwrap_or.ensures ∙ ap (λ r. unwrap_or r (length p)) c.start_in.ensures ∙ found p ∙ ap noise_in (take_rest s (32 * n)) in
    (omega (arith, e, h.0), omega (arith, e, few (drop (32 * n) s), length-drop (32 * n) s, h.1))
