-- The witnesses of each condition are the same once names are changed one to one that have a fact.
use Rattle.std.proofs.Common.{◌≡◌, map, refl, sym, ap, ◌∙◌}
use Rattle.tree_model.proofs.MapNames.{map_method-map_method}
use Rattle.image_model.specs.Image.{EntryOf, ImageOf, map_entry, map_image}
use Rattle.image_model.specs.ImageNames.{ImageNames}
use Rattle.image_model.specs.Means.{MeaningOf, pseudo, argument, temporary, variable, a_class, transcript, undeclared, map_meaning}
use Rattle.image_model.proofs.Lists.{option_map-option_map}
use Rattle.image_model.proofs.MapImage.{map_image-map_image}
use Rattle.command_model.specs.Commands.{CommandOf}
use Rattle.command_model.specs.Conditions.{ConditionOf}
use Rattle.command_model.specs.Asked.{AskedOf}
use Rattle.command_numbers.specs.MappedCommands.{map_command, map_condition}
use Rattle.command_numbers.specs.CommandNames.{CommandNames, ConditionNames}
use Rattle.command_numbers.proofs.Restricted.{Restricted, plain, by_restricted, by_restricted_condition}
use Rattle.command_numbers.proofs.CommandsMapped.{map_command-map_command, map_condition-map_condition, list-twice}
use Rattle.code_command_numbers.specs.KeepsMoves.{KeepsMoves}
use Rattle.code_command_numbers.proofs.MovedNamed.{restricted, as_plain, changed, kept}
use Rattle.refusal_witnesses.specs.Witnesses.{OwnerOf, AtPlace, InMethod, WitnessOf, APart, AWhole, AClass, ASelector, AStep, TwoMeanings}
use Rattle.refusal_witnesses.specs.Refused.{witnesses}
use Rattle.witness_numbers.specs.MappedWitnesses.{map_owner, map_witness}
use Rattle.witness_numbers.proofs.AllMapped.{witnesses-map}

-- names that are changed twice
module _ {K M N : Type 0} (g : M → N) (f : K → M) where
  entry-twice : (m : EntryOf K) → map_entry g (map_entry f m) ≡ map_entry (λ n. g (f n)) m
  entry-twice m = λ i. record { class = option_map-option_map g f m.class i; meta = m.meta; protocol = m.protocol; source = m.source; tree = map_method-map_method g f m.tree i; kernel = m.kernel }

  meaning-twice : (m : MeaningOf K) → map_meaning g (map_meaning f m) ≡ map_meaning (λ n. g (f n)) m
  meaning-twice pseudo = refl
  meaning-twice (argument scope) = refl
  meaning-twice (temporary scope) = refl
  meaning-twice (variable kind c) = refl
  meaning-twice (a_class c) = refl
  meaning-twice transcript = refl
  meaning-twice undeclared = refl

  owner-twice : (o : OwnerOf K) → map_owner g (map_owner f o) ≡ map_owner (λ n. g (f n)) o
  owner-twice (AtPlace place) = refl
  owner-twice (InMethod m) = ap InMethod (entry-twice m)

  witness-twice : (x : WitnessOf K) → map_witness g (map_witness f x) ≡ map_witness (λ n. g (f n)) x
  witness-twice (APart owner part) = ap (λ (o : OwnerOf N). APart o part) (owner-twice owner)
  witness-twice (AWhole owner) = ap AWhole (owner-twice owner)
  witness-twice (AClass c) = refl
  witness-twice (ASelector s) = refl
  witness-twice (AStep k) = refl
  witness-twice (TwoMeanings owner path n one other) = λ i. TwoMeanings (owner-twice owner i) path (g (f n)) (meaning-twice one i) (meaning-twice other i)

module _ {M N : Type 0} (P : M → Type 0) (f : M → N) (a : AskedOf M) (b : AskedOf N) (keeps : KeepsMoves P f a b) where
  -- what the names that have the fact are asked
  abbrev those : AskedOf (Restricted P)
  those = restricted P a keeps.self_known

  -- the witnesses over names that have the fact
  abbrev AreChanged : ImageOf M → CommandOf M → ConditionOf M → Type 0
  AreChanged i command condition = witnesses b (map_image f i) (map_command f command) (map_condition f condition) ≡ map (map_witness f) (witnesses a i command condition)

  pub witnesses-named : (i : ImageOf M) (command : CommandOf M) (condition : ConditionOf M) → ImageNames P i → CommandNames P command → ConditionNames P condition → AreChanged i command condition
  witnesses-named i command condition p q r =
      by_restricted P (λ i command. AreChanged i command condition) (λ k c.
      by_restricted_condition P (AreChanged (map_image (plain P) k) (map_command (plain P) c)) (λ x.
      (λ j. witnesses b (map_image-map_image f (plain P) k j) (map_command-map_command f (plain P) c j) (map_condition-map_condition f (plain P) x j))
      ∙ witnesses-map (changed P f a b keeps) those b (kept P f a b keeps) k c x
      ∙ sym (list-twice (map_witness f) (map_witness (plain P)) (map_witness (changed P f a b keeps)) (witness-twice f (plain P)) (witnesses those k c x))
      ∙ ap (map (map_witness f)) (sym (witnesses-map (plain P) those a (as_plain P a keeps.self_known) k c x)))
      condition r) i command p q
