use Rattle.std.proofs.Common.{◌≡◌, ℕ, ◌==◌, false, List, [], ◌∷◌, length, map, sym, ap, subst, ◌∙◌}
use Rattle.std.proofs.lemmas.Result.{IfOk-weaker}
use Rattle.tree_model.specs.Tree.{TreeOf}
use Rattle.st_tree.specs.View.{sequence_of}
use Rattle.event_trees.proofs.Known.{Grows-twice}
use Rattle.rb_base.specs.Names.{name_at}
use Rattle.pattern_model.specs.Named.{map_pattern}
use Rattle.certified_model.specs.Certificates.{stuck_at}
use Rattle.certificates.specs.Shown.{step_shown}
use Rattle.certificates.specs.declared.certificate.Step.{Step}
use Rattle.derivations.specs.Signs.{Sign}
use Rattle.derivations.specs.Numbered.{table_of, numbered}
use Rattle.derivations.specs.Named.{IsNamedOnce}
use Rattle.derivations.specs.Stuck.{stuck_step}
use Rattle.derivations.specs.Taken.{only, AreKnown, IsStuck}
use Rattle.derivations.proofs.Derived.{table_made, first_known, last_known, steps_are}
use Rattle.derivations.proofs.LawWords.{words_still}
use Rattle.derivations.proofs.steps.derives.Goals as goal

not_empty : (xs : List Step) → (length xs == 0) ≡ false → map step_shown xs ≡ [] → ⊥
not_empty [] h e = let bad : ⊥ = cc in bad
not_empty (x ∷ xs) h e = let bad : ⊥ = cc in bad

pub stuck_in-requires-clause-words : goal.stuck_in-requires-clause-words
stuck_in-requires-clause-words c = words_still c.name_marks.ensures.grows c.in_ok-learn_words.ensures.learned

pub stuck_in-requires-clause-table : goal.stuck_in-requires-clause-table
stuck_in-requires-clause-table c =
    let r = c.args.rule.now in
    let table = table_of c.in_ok-marks.marks in
    let named = subst (λ (ss : List Sign). IsNamedOnce c.learn_words.new.names ss table c.name_marks.new.names) c.in_ok-found.ensures c.in_ok-marks.ensures.named in
    table_made c.learn_words.ensures.grows (Grows-twice c.learn_words.ensures.grows c.name_marks.ensures.grows) r.pattern r.replacement c.requires.pattern c.requires.replacement table named

pub stuck_in-requires-clause-one : goal.stuck_in-requires-clause-one
stuck_in-requires-clause-one c =
    let r = c.args.rule.now in
    let table = table_of c.in_ok-marks.marks in
    let named = subst (λ (ss : List Sign). IsNamedOnce c.learn_words.new.names ss table c.name_marks.new.names) c.in_ok-found.ensures c.in_ok-marks.ensures.named in
    record {
      tree = numbered table r.pattern;
      is = c.in_ok-tree.ensures ∙ ap only c.in_ok-first.ensures;
      known = first_known c.learn_words.ensures.grows (Grows-twice c.learn_words.ensures.grows c.name_marks.ensures.grows) r.pattern r.replacement c.requires.pattern c.requires.replacement table named;
    }

pub stuck_in-requires-clause-last : goal.stuck_in-requires-clause-last
stuck_in-requires-clause-last c =
    let r = c.args.rule.now in
    let table = table_of c.in_ok-marks.marks in
    let named = subst (λ (ss : List Sign). IsNamedOnce c.learn_words.new.names ss table c.name_marks.new.names) c.in_ok-found.ensures c.in_ok-marks.ensures.named in
    subst (AreKnown c.name_marks.new.names) (sym c.in_ok-last.ensures)
    (last_known c.learn_words.ensures.grows (Grows-twice c.learn_words.ensures.grows c.name_marks.ensures.grows) r.pattern r.replacement c.requires.pattern c.requires.replacement table named)

pub returns-clause-exact : goal.returns-clause-exact
returns-clause-exact c =
    let r = c.args.rule.now in
    let names = c.args.names.now in
    let later = c.name_marks.new.names in
    let table = table_of c.in_ok-marks.marks in
    let steps : List Step = c.args.certificate.now.steps.items in
    let all : c.as_slice-steps.result.now ≡ steps = c.as_slice-steps.ensures.value in
    let named = subst (λ (ss : List Sign). IsNamedOnce c.learn_words.new.names ss table later) c.in_ok-found.ensures c.in_ok-marks.ensures.named in
    let some : (length steps == 0) ≡ false = ap (λ (xs : List Step). length xs == 0) (sym all) ∙ sym c.is_empty.ensures ∙ c.if-is_empty.false in
    IfOk-weaker c.stuck_in.result (λ d. IsStuck later table (map step_shown c.as_slice-steps.result.now) (sequence_of c.in_ok-tree.tree) c.in_ok-last.last (stuck_step d))
    (λ d. stuck_step d ≡ stuck_at (map step_shown steps) (map_pattern (name_at names) r.pattern) (map_pattern (name_at names) r.replacement))
    (λ d s.
    steps_are c.learn_words.ensures.grows (Grows-twice c.learn_words.ensures.grows c.name_marks.ensures.grows) r.pattern r.replacement c.requires.pattern c.requires.replacement table named c.len.ensures.distinct (map step_shown steps) (not_empty steps some) (sequence_of c.in_ok-tree.tree) (stuck_step d)
    (c.in_ok-tree.ensures ∙ ap only c.in_ok-first.ensures)
    (subst (λ (xs : List Step). IsStuck later table (map step_shown xs) (sequence_of c.in_ok-tree.tree) (numbered table r.replacement) (stuck_step d)) all
    (subst (λ (t : TreeOf ℕ). IsStuck later table (map step_shown c.as_slice-steps.result.now) (sequence_of c.in_ok-tree.tree) t (stuck_step d)) c.in_ok-last.ensures s)))
    c.stuck_in.ensures.exact
