use Rattle.std.proofs.Common.{◌≡◌, ◌+◌, ◌%◌, fold, rules, ◌∙◌}
use Rattle.frame.proofs.Laws.{sum_fold}
use Rattle.frame.proofs.sum.Goals as goal

pub returns : goal.returns
returns c =
    let folded : c.fold.result ≡ fold (λ s b. (s + b) % 256) 0 c.args.bytes.now = search rules in
    folded ∙ sum_fold c.args.bytes.now
