-- Code is the same after a name is changed that it does not mention.
use Rattle.std.proofs.Common.{◌≡◌, Bool, true, false, cond, List, get_or, refl, ◌∙◌}
use Rattle.std.specs.Prelude.{All, Contains, IsTrue}
use Rattle.std.proofs.lemmas.List.Elements.{Contains-get_or}
use Rattle.tree_model.specs.Tree.{SequenceOf, MethodOf, map_sequence, map_method}
use Rattle.tree_model.proofs.MapNames.{map_sequence-id, map_method-id}
use Rattle.tree_model.proofs.AllNamesLemmas.{map_sequence-same, map_method-same}
use Rattle.mentions.specs.Mentions.{code_names, method_names}
use Rattle.mentions.proofs.Complete.{SequenceNames-All, MethodNames-All}

module _ {N : Type 0} (same : N → N → Bool) (equal : (j k : N) → IsTrue (same j k) → j ≡ k) (old new : N) where
  -- the change of one name
  abbrev changed : N → N
  changed n = cond (same n old) new n

  -- it changes no other name
  changed-other : (ns : List N) (n : N) → (Contains ns old → ⊥) → Contains ns n → changed n ≡ n
  changed-other ns n absent there = by (same n old) refl
    where
      by : (c : Bool) → same n old ≡ c → cond c new n ≡ n
      by true is = absurd (absent (rw (← equal n old is) there))
      by false is = refl

  -- it changes no name of a list in which the old one is not
  unchanged-all : (ns : List N) → (Contains ns old → ⊥) → All (λ n. changed n ≡ n) ns
  unchanged-all ns absent k d lt = changed-other ns (get_or ns k d) absent (Contains-get_or ns k d lt)

  pub sequence-unmentioned : (b : SequenceOf N) → (Contains (code_names b) old → ⊥) → map_sequence changed b ≡ b
  sequence-unmentioned b absent =
      map_sequence-same changed (λ n. n) b (SequenceNames-All (λ n. changed n ≡ n) b (unchanged-all (code_names b) absent)) ∙ map_sequence-id b

  pub method-unmentioned : (m : MethodOf N) → (Contains (method_names m) old → ⊥) → map_method changed m ≡ m
  method-unmentioned m absent =
      map_method-same changed (λ n. n) m (MethodNames-All (λ n. changed n ≡ n) m (unchanged-all (method_names m) absent)) ∙ map_method-id m
