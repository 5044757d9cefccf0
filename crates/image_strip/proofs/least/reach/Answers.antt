use Rattle.std.proofs.Common.{◌≡◌, ◌||◌, Bool, true, sym, ap, subst, ◌∙◌}
use Rattle.image_strip.specs.Search.{IsSearch}
use Rattle.image_strip.proofs.Final.{search-first, search-later, search-next, search-smaller, search-closed, search-within, search-whole}
use Rattle.image_strip.proofs.least.reach.Goals as goal
use Rattle.image_strip.proofs.least.reach.Goals.{then-raised, else-raised}

pub returns : goal.returns
returns g c =
    let s = c.args.image.now in
    let start = c.args.start.now in
    let m = c.loop-changed.found in
    let found = subst (λ (b : Bool). IsSearch s start b m) c.loop-changed-test.false c.loop-changed.invariant in
    record {
      closed = search-closed s start c.requires.orderly c.requires.once m found;
      within = search-within s start c.requires.orderly c.requires.once m found;
      whole = search-whole s start c.requires.orderly c.requires.once m found;
    }

pub loop-changed-init : goal.loop-changed-init
loop-changed-init g c =
    search-later c.args.image.now c.args.start.now true c.add_doits.new.reach c.follow_all.new.reach
    (search-first c.args.image.now c.args.start.now c.new-found.result c.add_doit.new.reach c.add_doits.new.reach c.new-found.ensures c.in_ok-add_doit.ensures c.in_ok-add_doits.ensures)
    c.in_ok-follow_all.ensures

pub loop-changed-preserved : goal.loop-changed-preserved
loop-changed-preserved g c =
    let is : c.if-raised.changed ≡ (c.in_ok-raised.raised || c.in_ok-visited.visited) =
    elim c.if-raised.branch [
      | then-raised w ↦ w.changed-is ∙ w.if-raised.true ∙ sym (ap (λ (b : Bool). b || c.in_ok-visited.visited) w.if-raised.true)
      | else-raised w ↦ w.changed-is ∙ sym (ap (λ (b : Bool). b || c.in_ok-visited.visited) w.if-raised.false)
    ] in
    search-next c.args.image.now c.args.start.now c.loop-changed.changed c.in_ok-raised.raised c.in_ok-visited.visited c.loop-changed.found c.raise_all.new.reach c.visit_all.new.reach
    c.loop-changed.invariant c.in_ok-raised.ensures c.in_ok-visited.ensures c.if-raised.changed is

pub loop-changed-smaller : goal.loop-changed-smaller
loop-changed-smaller g c =
    let is : c.if-raised.changed ≡ (c.in_ok-raised.raised || c.in_ok-visited.visited) =
    elim c.if-raised.branch [
      | then-raised w ↦ w.changed-is ∙ w.if-raised.true ∙ sym (ap (λ (b : Bool). b || c.in_ok-visited.visited) w.if-raised.true)
      | else-raised w ↦ w.changed-is ∙ sym (ap (λ (b : Bool). b || c.in_ok-visited.visited) w.if-raised.false)
    ] in
    search-smaller c.args.image.now c.args.start.now c.loop-changed.changed c.in_ok-raised.raised c.in_ok-visited.visited c.loop-changed.found c.raise_all.new.reach c.visit_all.new.reach
    c.loop-changed.invariant c.in_ok-raised.ensures c.in_ok-visited.ensures c.if-raised.changed is c.loop-changed-test.true
