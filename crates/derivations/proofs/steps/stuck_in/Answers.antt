use Rattle.std.proofs.Common.{◌≡◌, ℕ, suc, ◌+◌, List, drop, length, map, Some, None, refl, sym, ap, subst, ◌∙◌, arith}
use Rattle.std.specs.Prelude.{Bool, if◌then◌else◌}
use Rattle.std.proofs.lemmas.List.{drop_all}
use Rattle.st_tree.specs.View.{sequence_of}
use Rattle.event_trees.proofs.Known.{Grows-none, Grows-twice}
use Rattle.rewritten_code.proofs.Growing.{tree_known}
use Rattle.certified_model.specs.Certificates.{stuck_from}
use Rattle.certificates.specs.Shown.{step_shown}
use Rattle.certificates.specs.declared.certificate.Step.{Step}
use Rattle.derivations.specs.Numbered.{table_of}
use Rattle.derivations.specs.Taken.{marks_of, IsTakenFrom}
use Rattle.derivations.proofs.Growing.{still_table}
use Rattle.derivations.proofs.LawWords.{words_still}
use Rattle.derivations.proofs.Listed.{cut_off}
use Rattle.derivations.proofs.Stuck.{IsReached, reached_on, reached_none, reached_end}
use Rattle.derivations.proofs.steps.stuck_in.Goals as goal

pub loop-index-init : goal.loop-index-init
loop-index-init c = record {
  reached = λ t e k l. record { tree = t; is = e; known = k; rest = refl };
  grows = Grows-none c.args.names.now;
  within = omega arith;
}

pub take_step-requires-clause-words : goal.take_step-requires-clause-words
take_step-requires-clause-words c = words_still c.loop-index.invariant.grows c.requires.words

pub take_step-requires-clause-table : goal.take_step-requires-clause-table
take_step-requires-clause-table c = still_table c.requires.table c.loop-index.invariant.grows

pub take_step-requires-clause-one : goal.take_step-requires-clause-one
take_step-requires-clause-one c =
    let one = c.requires.one in
    let r = c.loop-index.invariant.reached one.tree one.is one.known c.requires.last in
    record { tree = r.tree; is = r.is; known = r.known }

pub loop-index-preserved : goal.loop-index-preserved
loop-index-preserved c =
    let l = c.loop-index in
    let i = l.invariant in
    let table = table_of c.args.marks.now in
    let cut = cut_off c.args.steps.now c.index-steps-index.result l.index c.loop-index-test.true c.index-steps-index.is in
    record {
      reached = λ t e k last.
          let one : suc l.index ≡ l.index + 1 = omega arith in
          let r = subst (λ (xs : List Step). IsReached l.names table (suc l.index) (map step_shown xs) c.args.last.now (sequence_of l.tree) (stuck_from 1 (map step_shown c.args.steps.now) (marks_of c.args.names.now table c.args.last.now) (marks_of c.args.names.now table t))) cut (i.reached t e k last) in
          subst (λ (n : ℕ). IsReached c.take_step.new.names table (suc n) (map step_shown (drop (l.index + 1) c.args.steps.now)) c.args.last.now (sequence_of c.take_step.new.tree) (stuck_from 1 (map step_shown c.args.steps.now) (marks_of c.args.names.now table c.args.last.now) (marks_of c.args.names.now table t))) one
          (reached_on c.take_step.ensures.grows c.len.ensures.distinct table (still_table c.requires.table i.grows) (suc l.index) (step_shown c.index-steps-index.result) (map step_shown (drop (l.index + 1) c.args.steps.now)) c.args.last.now (tree_known i.grows c.args.last.now last) _ (sequence_of l.tree) (sequence_of c.take_step.new.tree) r
          (subst (IsTakenFrom l.names c.take_step.new.names table (step_shown c.index-steps-index.result) r.tree (sequence_of c.take_step.new.tree)) c.if-not-branch.false (c.in_ok-take_step.ensures.taken r.tree r.is r.known)));
      grows = Grows-twice i.grows c.take_step.ensures.grows;
      within = omega (arith, c.loop-index-test.true);
    }

pub returns-then-not-branch-clause-exact : goal.returns-then-not-branch-clause-exact
returns-then-not-branch-clause-exact c = λ t e k last.
    let l = c.loop-index in
    let i = l.invariant in
    let table = table_of c.args.marks.now in
    let cut = cut_off c.args.steps.now c.index-steps-index.result l.index c.loop-index-test.true c.index-steps-index.is in
    let r = subst (λ (xs : List Step). IsReached l.names table (suc l.index) (map step_shown xs) c.args.last.now (sequence_of l.tree) (stuck_from 1 (map step_shown c.args.steps.now) (marks_of c.args.names.now table c.args.last.now) (marks_of c.args.names.now table t))) cut (i.reached t e k last) in
    let one : l.index + 1 ≡ suc l.index = omega arith in
    ap (λ (n : ℕ). Some n) one
    ∙ reached_none c.take_step.ensures.grows c.len.ensures.distinct table (still_table c.requires.table i.grows) (suc l.index) (step_shown c.index-steps-index.result) (map step_shown (drop (l.index + 1) c.args.steps.now)) c.args.last.now (tree_known i.grows c.args.last.now last) _ (sequence_of l.tree) (sequence_of c.take_step.new.tree) r
    (subst (IsTakenFrom l.names c.take_step.new.names table (step_shown c.index-steps-index.result) r.tree (sequence_of c.take_step.new.tree)) c.if-not-branch.true (c.in_ok-take_step.ensures.taken r.tree r.is r.known))

pub returns-then-is_last-clause-exact : goal.returns-then-is_last-clause-exact
returns-then-is_last-clause-exact c = λ t e k last.
    let l = c.loop-index in
    let i = l.invariant in
    let table = table_of c.args.marks.now in
    let r = subst (λ (xs : List Step). IsReached l.names table (suc l.index) (map step_shown xs) c.args.last.now (sequence_of l.tree) (stuck_from 1 (map step_shown c.args.steps.now) (marks_of c.args.names.now table c.args.last.now) (marks_of c.args.names.now table t))) (drop_all l.index c.args.steps.now c.loop-index-test.false) (i.reached t e k last) in
    ap (λ (b : Bool). if b then None else Some (suc l.index)) (sym c.if-is_last.true)
    ∙ reached_end l.names c.len-2.ensures.distinct table (still_table c.requires.table i.grows) (suc l.index) c.args.last.now (tree_known i.grows c.args.last.now last) _ (sequence_of l.tree) r c.is_last.result (c.is_last.ensures r.tree r.is)

pub returns-else-is_last-clause-exact : goal.returns-else-is_last-clause-exact
returns-else-is_last-clause-exact c = λ t e k last.
    let l = c.loop-index in
    let i = l.invariant in
    let table = table_of c.args.marks.now in
    let r = subst (λ (xs : List Step). IsReached l.names table (suc l.index) (map step_shown xs) c.args.last.now (sequence_of l.tree) (stuck_from 1 (map step_shown c.args.steps.now) (marks_of c.args.names.now table c.args.last.now) (marks_of c.args.names.now table t))) (drop_all l.index c.args.steps.now c.loop-index-test.false) (i.reached t e k last) in
    let size : length c.args.steps.now + 1 ≡ suc l.index = omega (arith, c.loop-index-test.false, i.within) in
    ap (λ (n : ℕ). Some n) size
    ∙ ap (λ (b : Bool). if b then None else Some (suc l.index)) (sym c.if-is_last.false)
    ∙ reached_end l.names c.len-2.ensures.distinct table (still_table c.requires.table i.grows) (suc l.index) c.args.last.now (tree_known i.grows c.args.last.now last) _ (sequence_of l.tree) r c.is_last.result (c.is_last.ensures r.tree r.is)
