-- What a metavariable with its place stands for.
use Rattle.std.specs.Prelude.{ℕ}
use Rattle.patterns.specs.View.{meta_of}
use Rattle.pattern_trees.specs.Faults.{MetaAt}
use Rattle.pattern_faults.specs.declared.searching.PlacedMeta.{PlacedMeta}

abbrev pub meta_at : PlacedMeta → MetaAt ℕ
meta_at x = record { meta = meta_of x.meta; from = x.from }
