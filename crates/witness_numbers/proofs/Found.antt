-- The witnesses of what a condition names, a method, a part, a message with its target and an assignment, are the same once names are changed one to one.
use Rattle.std.proofs.Common.{◌≡◌, ℕ, Bool, List, [], Option, ap, ◌∙◌}
use Rattle.std.specs.Option.{option_map_or}
use Rattle.image_model.specs.Image.{EntryOf, ImageOf, map_entry, map_image}
use Rattle.command_model.specs.Parts.{Part}
use Rattle.command_model.specs.Asked.{AskedOf}
use Rattle.command_model.specs.Places.{users_method, SendOf}
use Rattle.command_model.specs.Temporaries.{LetOf, let_of}
use Rattle.command_model.specs.CodeEffects.{part_at, send_at, target_of}
use Rattle.command_numbers.proofs.Everywhere.{Every}
use Rattle.command_numbers.proofs.TemporariesMapped.{users_method-map}
use Rattle.code_command_numbers.specs.KeepsMoves.{KeepsMoves}
use Rattle.code_command_numbers.proofs.PlacesMapped.{map_send}
use Rattle.code_command_numbers.proofs.LetsMapped.{map_let, let_of-map}
use Rattle.code_command_numbers.proofs.MovedEffects.{map_part, map_sent, part_at-map, send_at-map, target_of-map}
use Rattle.refusal_witnesses.specs.Witnesses.{WitnessOf}
use Rattle.refusal_witnesses.specs.Refused.{of_method, of_part, of_target, of_let}
use Rattle.witness_numbers.proofs.Gathered.{mapped, maybe-map}

module _ {M N : Type 0} (f : M → N) (a : AskedOf M) (b : AskedOf N) (keeps : KeepsMoves Every f a b) (i : ImageOf M) (c : M) (meta : Bool) (s : M) where
  pub of_method-map : (p : EntryOf M → List (WitnessOf M)) (q : EntryOf N → List (WitnessOf N)) → ((m : EntryOf M) → q (map_entry f m) ≡ mapped f (p m))
      → of_method b (map_image f i) (f c) meta (f s) q ≡ mapped f (of_method a i c meta s p)
  of_method-map p q e =
      ap (λ (o : Option (EntryOf N)). option_map_or q o []) (users_method-map f a.words b.words keeps.asked.words i c meta s) ∙ maybe-map f (map_entry f) p q e (users_method a.words.tests.same i c meta s)

  pub of_send-map : (from to : ℕ) (p : EntryOf M × SendOf M → List (WitnessOf M)) (q : EntryOf N × SendOf N → List (WitnessOf N)) → ((x : EntryOf M × SendOf M) → q (map_sent f x) ≡ mapped f (p x))
      → option_map_or q (send_at b (map_image f i) (f c) meta (f s) from to) [] ≡ mapped f (option_map_or p (send_at a i c meta s from to) [])
  of_send-map from to p q e =
      ap (λ (o : Option (EntryOf N × SendOf N)). option_map_or q o []) (send_at-map f a b keeps i c meta s from to) ∙ maybe-map f (map_sent f) p q e (send_at a i c meta s from to)

  pub of_part-map : (from to : ℕ) (p : EntryOf M → Part → List (WitnessOf M)) (q : EntryOf N → Part → List (WitnessOf N)) → ((m : EntryOf M) (part : Part) → q (map_entry f m) part ≡ mapped f (p m part))
      → of_part b (map_image f i) (f c) meta (f s) from to q ≡ mapped f (of_part a i c meta s from to p)
  of_part-map from to p q e =
      ap (λ (o : Option (EntryOf N × Part)). option_map_or (λ (x : EntryOf N × Part). q x.0 x.1) o []) (part_at-map f a b keeps i c meta s from to)
      ∙ maybe-map f (map_part f) (λ (x : EntryOf M × Part). p x.0 x.1) (λ (x : EntryOf N × Part). q x.0 x.1) (λ x. e x.0 x.1) (part_at a i c meta s from to)

  pub of_target-map : (from to : ℕ) (p : EntryOf M → SendOf M → EntryOf M → List (WitnessOf M)) (q : EntryOf N → SendOf N → EntryOf N → List (WitnessOf N))
      → ((m : EntryOf M) (e : SendOf M) (target : EntryOf M) → q (map_entry f m) (map_send f e) (map_entry f target) ≡ mapped f (p m e target))
      → of_target b (map_image f i) (f c) meta (f s) from to q ≡ mapped f (of_target a i c meta s from to p)
  of_target-map from to p q e = of_send-map from to found found_there each
    where
      found : EntryOf M × SendOf M → List (WitnessOf M)
      found x = option_map_or (p x.0 x.1) (target_of a i c meta x.1) []

      found_there : EntryOf N × SendOf N → List (WitnessOf N)
      found_there x = option_map_or (q x.0 x.1) (target_of b (map_image f i) (f c) meta x.1) []

      each : (x : EntryOf M × SendOf M) → found_there (map_sent f x) ≡ mapped f (found x)
      each x =
          ap (λ (o : Option (EntryOf N)). option_map_or (q (map_entry f x.0) (map_send f x.1)) o []) (target_of-map f a b keeps i c meta x.1)
          ∙ maybe-map f (map_entry f) (p x.0 x.1) (q (map_entry f x.0) (map_send f x.1)) (e x.0 x.1) (target_of a i c meta x.1)

  pub of_let-map : (x : M) (p : EntryOf M → LetOf M → List (WitnessOf M)) (q : EntryOf N → LetOf N → List (WitnessOf N)) → ((m : EntryOf M) (e : LetOf M) → q (map_entry f m) (map_let f e) ≡ mapped f (p m e))
      → of_let b (map_image f i) (f c) meta (f s) (f x) q ≡ mapped f (of_let a i c meta s x p)
  of_let-map x p q e =
      of_method-map (λ (m : EntryOf M). option_map_or (p m) (let_of a m.tree x) []) (λ (m : EntryOf N). option_map_or (q m) (let_of b m.tree (f x)) [])
      (λ m. ap (λ (o : Option (LetOf N)). option_map_or (q (map_entry f m)) o []) (let_of-map f a b keeps.asked m.tree x) ∙ maybe-map f (map_let f) (p m) (q (map_entry f m)) (e m) (let_of a m.tree x))
