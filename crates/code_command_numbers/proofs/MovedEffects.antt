-- What commands that move code make of an image is the same once names are changed one to one.
use Rattle.std.proofs.Common.{◌≡◌, ℕ, Bool, List, Option, Some, None, option_map, option_and_then, refl, ap, ◌∙◌}
use Rattle.tree_model.specs.Tree.{MethodOf, map_method}
use Rattle.image_model.specs.Image.{EntryOf, ImageOf, map_entry, map_image}
use Rattle.rename_model.specs.ClassRenamed.{WritingOf}
use Rattle.command_model.specs.Parts.{Part}
use Rattle.command_model.specs.Asked.{AskedOf}
use Rattle.command_model.specs.Commands.{CommandOf, AbstractInstVar, ExtractMethod, InlineMethod, ExtractTemp, InlineTemp}
use Rattle.command_model.specs.Places.{users_method, SendOf, sent_by}
use Rattle.command_model.specs.Sequences.{with_tree}
use Rattle.command_model.specs.Accessors.{variable_abstracted}
use Rattle.command_model.specs.Extracted.{method_extracted}
use Rattle.command_model.specs.Inlined.{tree_inlined}
use Rattle.command_model.specs.Temporaries.{let_of, temporary_extracted, temporary_inlined}
use Rattle.command_model.specs.CodeEffects.{path_of_expression, part_at, send_at, target_of, tree_inlining, tree_extracting, tree_without, tree_made, retreed, code_effect}
use Rattle.command_numbers.specs.MappedCommands.{map_command}
use Rattle.command_numbers.specs.KeepsAsked.{KeepsWriting}
use Rattle.command_numbers.proofs.Everywhere.{Every}
use Rattle.command_numbers.proofs.MethodConditionsMapped.{lookup-there}
use Rattle.command_numbers.proofs.TemporariesMapped.{users_method-map, with_tree-map}
use Rattle.code_command_numbers.specs.KeepsMoves.{KeepsMoves}
use Rattle.code_command_numbers.proofs.MovesCode.{MovesCode}
use Rattle.code_command_numbers.proofs.PlacesMapped.{map_send, sent_by-map}
use Rattle.code_command_numbers.proofs.LetsMapped.{map_let, let_of-map, temporary_extracted-map, temporary_inlined-map}
use Rattle.code_command_numbers.proofs.ExtractedMapped.{method_extracted-map}
use Rattle.code_command_numbers.proofs.InlinedMapped.{tree_inlined-map}
use Rattle.code_command_numbers.proofs.AccessorsMapped.{variable_abstracted-map}

-- what is made of a thing that there may be
module _ {X Y A B : Type 0} (g : X → Y) (h : A → B) where
  pub then-total : (p : X → Option A) (q : Y → Option B) → ((x : X) → q (g x) ≡ option_map h (p x)) → (o : Option X) → option_and_then q (option_map g o) ≡ option_map h (option_and_then p o)
  then-total p q e None = refl
  then-total p q e (Some x) = e x

  pub maybe-total : (p : X → A) (q : Y → B) → ((x : X) → q (g x) ≡ h (p x)) → (o : Option X) → option_map q (option_map g o) ≡ option_map h (option_map p o)
  maybe-total p q e None = refl
  maybe-total p q e (Some x) = ap Some (e x)

module _ {M N : Type 0} (f : M → N) where
  -- a method with a part, or with a message
  abbrev pub map_part : EntryOf M × Part → EntryOf N × Part
  map_part e = (map_entry f e.0, e.1)

  abbrev pub map_sent : EntryOf M × SendOf M → EntryOf N × SendOf N
  map_sent e = (map_entry f e.0, map_send f e.1)

module _ {M N : Type 0} (f : M → N) (a : AskedOf M) (b : AskedOf N) (keeps : KeepsMoves Every f a b) (i : ImageOf M) where
  -- the part that a command names
  pub part_at-map : (c : M) (meta : Bool) (s : M) (from to : ℕ) → part_at b (map_image f i) (f c) meta (f s) from to ≡ option_map (map_part f) (part_at a i c meta s from to)
  part_at-map c meta s from to =
      ap (option_and_then (λ (m : EntryOf N). option_map (λ (p : Part). (m, p)) (b.part_of m.source from to))) (users_method-map f a.words b.words keeps.asked.words i c meta s)
      ∙ then-total (map_entry f) (map_part f) (λ (m : EntryOf M). option_map (λ (p : Part). (m, p)) (a.part_of m.source from to)) (λ (m : EntryOf N). option_map (λ (p : Part). (m, p)) (b.part_of m.source from to))
      (λ m. ap (λ (parts : List ℕ → ℕ → ℕ → Option Part). option_map (λ (p : Part). (map_entry f m, p)) (parts m.source from to)) keeps.part_of ∙ with_method m (a.part_of m.source from to)) (users_method a.words.tests.same i c meta s)
    where
      with_method : (m : EntryOf M) (o : Option Part) → ◌≡◌ {A = Option (EntryOf N × Part)} (option_map (λ (p : Part). (map_entry f m, p)) o) (option_map (map_part f) (option_map (λ (p : Part). (m, p)) o))
      with_method m None = refl
      with_method m (Some p) = refl

  -- the message that it is
  pub send_at-map : (c : M) (meta : Bool) (s : M) (from to : ℕ) → send_at b (map_image f i) (f c) meta (f s) from to ≡ option_map (map_sent f) (send_at a i c meta s from to)
  send_at-map c meta s from to =
      ap (option_and_then (λ (e : EntryOf N × Part). option_map (λ (x : SendOf N). (e.0, x)) (sent_by e.0.tree e.1))) (part_at-map c meta s from to)
      ∙ then-total (map_part f) (map_sent f) (λ (e : EntryOf M × Part). option_map (λ (x : SendOf M). (e.0, x)) (sent_by e.0.tree e.1)) (λ (e : EntryOf N × Part). option_map (λ (x : SendOf N). (e.0, x)) (sent_by e.0.tree e.1))
      (λ e. ap (option_map (λ (x : SendOf N). (map_entry f e.0, x))) (sent_by-map f e.0.tree e.1) ∙ with_method e.0 (sent_by e.0.tree e.1)) (part_at a i c meta s from to)
    where
      with_method : (m : EntryOf M) (o : Option (SendOf M)) → ◌≡◌ {A = Option (EntryOf N × SendOf N)} (option_map (λ (x : SendOf N). (map_entry f m, x)) (option_map (map_send f) o)) (option_map (map_sent f) (option_map (λ (x : SendOf M). (m, x)) o))
      with_method m None = refl
      with_method m (Some x) = refl

  -- the method that it finds
  pub target_of-map : (c : M) (meta : Bool) (e : SendOf M) → target_of b (map_image f i) (f c) meta (map_send f e) ≡ option_map (map_entry f) (target_of a i c meta e)
  target_of-map c meta e = lookup-there f a.words b.words keeps.asked.words i (Some c) meta e.selector

  -- a message that becomes a body
  pub tree_inlining-map : (c : M) (meta : Bool) (s : M) (from to : ℕ) (m : EntryOf M)
      → tree_inlining b (map_image f i) (f c) meta (f s) from to (map_entry f m) ≡ option_map (map_method f) (tree_inlining a i c meta s from to m)
  tree_inlining-map c meta s from to m =
      ap (option_and_then put_there) (send_at-map c meta s from to)
      ∙ then-total (map_sent f) (map_method f) put put_there
      (λ e. ap (option_and_then (λ (target : EntryOf N). tree_inlined b (map_method f m.tree) (map_send f e.1) target.tree)) (target_of-map c meta e.1)
      ∙ then-total (map_entry f) (map_method f) (λ (target : EntryOf M). tree_inlined a m.tree e.1 target.tree) (λ (target : EntryOf N). tree_inlined b (map_method f m.tree) (map_send f e.1) target.tree)
      (λ target. tree_inlined-map f a b keeps.asked m.tree e.1 target.tree) (target_of a i c meta e.1)) (send_at a i c meta s from to)
    where
      put : EntryOf M × SendOf M → Option (MethodOf M)
      put e = option_and_then (λ (target : EntryOf M). tree_inlined a m.tree e.1 target.tree) (target_of a i c meta e.1)

      put_there : EntryOf N × SendOf N → Option (MethodOf N)
      put_there e = option_and_then (λ (target : EntryOf N). tree_inlined b (map_method f m.tree) e.1 target.tree) (target_of b (map_image f i) (f c) meta e.1)

  -- an expression that becomes a temporary
  pub tree_extracting-map : (from to : ℕ) (x : M) (m : EntryOf M) → tree_extracting b (map_image f i) from to (f x) (map_entry f m) ≡ option_map (map_method f) (tree_extracting a i from to x m)
  tree_extracting-map from to x m =
      ap (λ (parts : List ℕ → ℕ → ℕ → Option Part). option_and_then (λ (path : List ℕ). temporary_extracted b (map_method f m.tree) path (f x)) (option_and_then path_of_expression (parts m.source from to))) keeps.part_of
      ∙ by (option_and_then path_of_expression (a.part_of m.source from to))
    where
      by : (o : Option (List ℕ)) → option_and_then (λ (path : List ℕ). temporary_extracted b (map_method f m.tree) path (f x)) o ≡ option_map (map_method f) (option_and_then (λ (path : List ℕ). temporary_extracted a m.tree path x) o)
      by None = refl
      by (Some path) = temporary_extracted-map f a b keeps.asked m.tree x path

  -- a temporary that becomes what is assigned to it
  pub tree_without-map : (x : M) (m : EntryOf M) → tree_without b (map_image f i) (f x) (map_entry f m) ≡ option_map (map_method f) (tree_without a i x m)
  tree_without-map x m =
      ap (option_map (temporary_inlined b (map_method f m.tree) (f x))) (let_of-map f a b keeps.asked m.tree x)
      ∙ maybe-total (map_let f) (map_method f) (temporary_inlined a m.tree x) (temporary_inlined b (map_method f m.tree) (f x)) (temporary_inlined-map f a b keeps.asked m.tree x) (let_of a m.tree x)

  -- the tree that is made of the one of a method
  pub tree_made-map : (c : M) (meta : Bool) (s : M) (change : EntryOf M → Option (MethodOf M)) (change_there : EntryOf N → Option (MethodOf N)) → ((m : EntryOf M) → change_there (map_entry f m) ≡ option_map (map_method f) (change m))
      → tree_made b (map_image f i) (f c) meta (f s) change_there ≡ option_map (map_method f) (tree_made a i c meta s change)
  tree_made-map c meta s change change_there e =
      ap (option_and_then change_there) (users_method-map f a.words b.words keeps.asked.words i c meta s) ∙ then-total (map_entry f) (map_method f) change change_there e (users_method a.words.tests.same i c meta s)

  module _ (writing : WritingOf M) (writing_there : WritingOf N) (written : KeepsWriting Every f writing writing_there) where
    -- an image in which a method has another tree
    retreed-map : (c : M) (meta : Bool) (s : M) (change : EntryOf M → Option (MethodOf M)) (change_there : EntryOf N → Option (MethodOf N)) → ((m : EntryOf M) → change_there (map_entry f m) ≡ option_map (map_method f) (change m))
        → retreed b (map_image f i) writing_there (f c) meta (f s) change_there ≡ option_map (map_image f) (retreed a i writing c meta s change)
    retreed-map c meta s change change_there e =
        ap (option_map (λ tree. with_tree b.words.tests.same writing_there (f c) meta (f s) tree (map_image f i))) (tree_made-map c meta s change change_there e)
        ∙ maybe-total (map_method f) (map_image f) (λ tree. with_tree a.words.tests.same writing c meta s tree i) (λ tree. with_tree b.words.tests.same writing_there (f c) meta (f s) tree (map_image f i))
        (λ tree. with_tree-map f a.words b.words keeps.asked.words writing writing_there written c meta s tree i) (tree_made a i c meta s change)

    -- the image after such a command, where one is told
    pub code_effect-map : (command : CommandOf M) → MovesCode command → code_effect b (map_image f i) writing_there (map_command f command) ≡ option_map (map_image f) (code_effect a i writing command)
    code_effect-map (AbstractInstVar c x setter given) moves =
        ap Some (ap (λ (n : N). variable_abstracted b.words writing_there n (f c) (f x) (f setter) (f given) (map_image f i)) keeps.self_name
        ∙ variable_abstracted-map f a.words b.words keeps.asked.words writing writing_there written a.self_name c x setter given i)
    code_effect-map (ExtractMethod c meta s from to t) moves =
        ap (option_map (λ (e : EntryOf N × Part). method_extracted b writing_there (f c) meta (f s) e.0 e.1 (f t) (map_image f i))) (part_at-map c meta s from to)
        ∙ maybe-total (map_part f) (map_image f) (λ (e : EntryOf M × Part). method_extracted a writing c meta s e.0 e.1 t i) (λ (e : EntryOf N × Part). method_extracted b writing_there (f c) meta (f s) e.0 e.1 (f t) (map_image f i))
        (λ e. method_extracted-map f a b keeps.asked keeps.self_name writing writing_there written c meta s e.0 e.1 t i) (part_at a i c meta s from to)
    code_effect-map (InlineMethod c meta s from to) moves =
        retreed-map c meta s (tree_inlining a i c meta s from to) (tree_inlining b (map_image f i) (f c) meta (f s) from to) (tree_inlining-map c meta s from to)
    code_effect-map (ExtractTemp c meta s from to x) moves =
        retreed-map c meta s (tree_extracting a i from to x) (tree_extracting b (map_image f i) from to (f x)) (tree_extracting-map from to x)
    code_effect-map (InlineTemp c meta s x) moves = retreed-map c meta s (tree_without a i x) (tree_without b (map_image f i) (f x)) (tree_without-map x)
    code_effect-map command moves = absurd moves
