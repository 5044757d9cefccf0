-- What is read is the text, and what is left stands behind it. Where another text stands, nothing is read.
use Rattle.std.proofs.Common.{◌≡◌, ◌≢◌, ℕ, List, ◌++◌, Some, None, sym, ap, ◌∙◌}
use Rattle.std.proofs.lemmas.Bool.Decides.{Decides-eqb}
use Rattle.std.proofs.lemmas.Slice.Eq.{strip_prefix_is}
use Rattle.case_tables.proofs.table.Table.skip.Goals as goal

pub returns-in-Some-clause-read : goal.returns-in-Some-clause-read
returns-in-Some-clause-read c =
    let e : c.args.self.now.rest.now ≡ c.as_bytes.result.now ++ c.in-Some.rest.now =
    strip_prefix_is Decides-eqb _ _ (Some c.in-Some.rest) c.in-Some.ensures.cases in
    λ _. cc (e, c.as_bytes.ensures.value)

pub returns-in-None-clause-lacks : goal.returns-in-None-clause-lacks
returns-in-None-clause-lacks c =
    let lacks : (more : List ℕ) → c.args.self.now.rest.now ≢ c.as_bytes.result.now ++ more = strip_prefix_is Decides-eqb _ _ None c.in-None.ensures.cases in
    λ _ more e. lacks more (e ∙ ap (λ l. l ++ more) (sym c.as_bytes.ensures.value))
