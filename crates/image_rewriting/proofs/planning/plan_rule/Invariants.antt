use Rattle.std.proofs.Common.{◌≡◌, take}
use Rattle.rb_base.specs.Names.{HasNoTwice}
use Rattle.event_trees.specs.Naming.{Grows}
use Rattle.image_rewriting.specs.Planned.{renamed}
use Rattle.image_rewriting.proofs.Places.{FoundSoFar}
use Rattle.image_rewriting.proofs.planning.plan_rule.Given as goal

abbrev pub invariant-loop-place : goal.invariant-loop-place
invariant-loop-place g l = record {
  rest : l.image ≡ renamed l.initial.image l.image.names;
  grows : Grows l.initial.image.names l.image.names;
  once : HasNoTwice l.image.names;
  found : FoundSoFar l.initial.image l.image.names l.rule (take l.place-index l.place-items) l.changes l.touched.items;
}
