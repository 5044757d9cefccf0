use Rattle.std.proofs.Common.{◌≡◌, ◌+◌, ◌++◌, [], ◌∷◌, List, map, drop, true, false, sym, ap, ◌∙◌, arith, rules}
use Rattle.std.specs.Prelude.{nat_eq, reverse, Vec}
use Rattle.std.specs.List.{list_any}
use Rattle.std.specs.declared.alloc.Global.{Global}
use Rattle.std.proofs.lemmas.Grind.{common_steps}
use Rattle.pattern_model.specs.Bindings.{same_meta}
use Rattle.patterns.specs.View.{meta_of}
use Rattle.patterns.specs.declared.tree.Meta.{Meta}
use Rattle.pattern_faults.specs.Placed.{meta_at}
use Rattle.pattern_faults.specs.declared.searching.PlacedMeta.{PlacedMeta}
use Rattle.pattern_faults.proofs.Again.{again, again_passed, again_here, again_first}
use Rattle.pattern_faults.proofs.searching.first_again.Goals as goal
use Rattle.pattern_faults.proofs.searching.first_again.Goals.{then-is_doubled_among+else-is_among+in_ok-push, else-is_doubled_among}

pub returns-then-is_among : goal.returns-then-is_among
returns-then-is_among c =
    let l = c.loop-place in
    let x : PlacedMeta = c.place-item.result in
    let doubled : true ≡ c.is_doubled_among.result = first_of (search rules, grind (arith, common_steps), cc) in
    let among : true ≡ c.is_among.result = first_of (search rules, grind (arith, common_steps), cc) in
    sym (again_here c.args.known.now c.args.placed.now l.place-index x c.loop-place-test.true c.place-item.is l.before.items (doubled ∙ c.is_doubled_among.ensures)
    (among ∙ c.is_among.ensures ∙ ap (λ (ms : List Meta). list_any (λ y. same_meta nat_eq (meta_of x.meta) (meta_of y)) ms) c.deref.ensures.value))
    ∙ l.invariant

pub loop-place-preserved : goal.loop-place-preserved
loop-place-preserved c =
    let l = c.loop-place in
    let x : PlacedMeta = c.place-item.result in
    elim c.if-is_doubled_among.branch [
      | then-is_doubled_among+else-is_among+in_ok-push w ↦
          let doubled : true ≡ c.is_doubled_among.result = first_of (search rules, grind (arith, common_steps), cc) in
          let among : false ≡ w.is_among.result = first_of (search rules, grind (arith, common_steps), cc) in
          let more : w.push.new.self.items ≡ l.before.items ++ x.meta ∷ [] = first_of (search rules, grind (arith, common_steps), cc) in
          ap (λ (v : Vec Meta Global). again c.args.known.now (reverse (map meta_of v.items)) (map meta_at (drop (l.place-index + 1) c.args.placed.now))) w.before-is
          ∙ sym (again_first c.args.known.now c.args.placed.now l.place-index x c.loop-place-test.true c.place-item.is l.before.items (doubled ∙ c.is_doubled_among.ensures) w.push.new.self.items more
          (among ∙ w.is_among.ensures ∙ ap (λ (ms : List Meta). list_any (λ y. same_meta nat_eq (meta_of x.meta) (meta_of y)) ms) w.deref.ensures.value))
          ∙ l.invariant
      | else-is_doubled_among w ↦
          let doubled : false ≡ c.is_doubled_among.result = first_of (search rules, grind (arith, common_steps), cc) in
          ap (λ (v : Vec Meta Global). again c.args.known.now (reverse (map meta_of v.items)) (map meta_at (drop (l.place-index + 1) c.args.placed.now))) w.before-is
          ∙ sym (again_passed c.args.known.now c.args.placed.now l.place-index x c.loop-place-test.true c.place-item.is (reverse (map meta_of l.before.items)) (doubled ∙ c.is_doubled_among.ensures))
          ∙ l.invariant
    ]
