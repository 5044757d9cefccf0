use Rattle.std.proofs.Common.{ℕ, List, ◌++◌, ap, ◌∙◌}
use Rattle.std.proofs.lemmas.Result.{on_ok_weaker}
use Rattle.name_meanings.specs.Meanings.{meaning_of}
use Rattle.refusal_witnesses.specs.Witnesses.{TwoMeanings, where_true}
use Rattle.witness_lists.specs.Views.{owner_of, shown}
use Rattle.part_witnesses.proofs.push.push_meanings_if.Goals as goal

pub returns : goal.returns
returns c s =
    let it = c.args.named.now in
    on_ok_weaker c.push_if.result
    (λ e. e
    ∙ ap (λ (p : List ℕ). shown s c.args.found.now.items ++ where_true {N = ℕ} c.args.test (TwoMeanings (owner_of s it.owner) p it.name (meaning_of it.one) (meaning_of it.other))) c.in_ok-try_copy.ensures)
    (c.push_if.ensures s)
