use Rattle.std.proofs.Common.{◌≡◌, ℕ, List, ◌++◌, take}
use Rattle.std.specs.List.{flat_map}
use Rattle.rb_base.specs.Names.{text_eq}
use Rattle.scope_model.specs.FreeNames.{each_once}
use Rattle.explained_scripts.proofs.lines.push_each_once.Given as goal

abbrev pub invariant-loop-line : goal.invariant-loop-line
invariant-loop-line l = record {
  seen : l.seen ≡ each_once text_eq (take l.line-index l.lines);
  out : l.out ≡ l.initial.out ++ flat_map (λ (t : List ℕ). t) l.seen;
}
