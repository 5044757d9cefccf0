-- How high what commands that move code change or add is afterwards is the same once names are changed one to one.
use Rattle.std.proofs.Common.{◌≡◌, ℕ, Bool, false, not, ◌&&◌, ◌||◌, nat_le, Option, option_map, refl, ap, ◌∙◌}
use Rattle.std.specs.List.{list_all}
use Rattle.std.specs.Option.{option_map_or}
use Rattle.tree_model.specs.Tree.{SequenceOf, MethodOf, map_sequence, map_method}
use Rattle.tree_model.specs.Normal.{normal}
use Rattle.tree_model.proofs.Measures.{statements_height-map_statements}
use Rattle.tree_model.proofs.NormalLemmas.{normal-map_method}
use Rattle.image_model.specs.Image.{EntryOf, DoItOf, ImageOf, map_entry, map_doit, map_image}
use Rattle.image_model.specs.Means.{means, means_in_doit}
use Rattle.command_model.specs.Asked.{AskedOf}
use Rattle.command_model.specs.Parts.{Part}
use Rattle.command_model.specs.Accessors.{getter, setter_of, is_meant, method_made, doit_made}
use Rattle.command_model.specs.Extracted.{part_replaced, call_of, method_of}
use Rattle.command_model.specs.CodeEffects.{tree_made}
use Rattle.command_model.specs.ParameterConditions.{is_low}
use Rattle.command_model.specs.CodeHolds.{no_writing, is_low_made, are_low_extracted, are_low_abstracted}
use Rattle.command_numbers.specs.KeepsAsked.{KeepsWriting}
use Rattle.command_numbers.proofs.Lists.{all-total, or-total}
use Rattle.command_numbers.proofs.Everywhere.{Every}
use Rattle.command_numbers.proofs.UsesAsked.{means-there, means_in_doit-there}
use Rattle.code_command_numbers.specs.KeepsMoves.{KeepsMoves}
use Rattle.code_command_numbers.proofs.ExtractedMapped.{part_replaced-map, method_of-map, call_of-map}
use Rattle.code_command_numbers.proofs.AccessorsMapped.{is_meant-map, method_made-map, doit_made-map}
use Rattle.code_command_numbers.proofs.MovedEffects.{tree_made-map}

-- a sequence that is not high
pub is_low-map : {M N : Type 0} (f : M → N) (b : SequenceOf M) → is_low (map_sequence f b) ≡ is_low b
is_low-map f b = ap (λ (h : ℕ). nat_le h 200) (statements_height-map_statements f b.statements)

-- no text is written, before and after
unwritten : {M N : Type 0} (f : M → N) → KeepsWriting Every f no_writing no_writing
unwritten f = record { method_text = λ m h. refl; doit_text = λ d h. refl }

module _ {M N : Type 0} (f : M → N) (a : AskedOf M) (b : AskedOf N) (keeps : KeepsMoves Every f a b) (i : ImageOf M) where
  -- a method in the form in which it is kept
  pub normal_low : (m : MethodOf M) → is_low (normal (map_method f m)).body ≡ is_low (normal m).body
  normal_low m = ap (λ (k : MethodOf N). is_low k.body) (normal-map_method f m) ∙ is_low-map f (normal m).body

  -- what is made of the tree of a method
  pub is_low_made-map : (c : M) (meta : Bool) (s : M) (change : EntryOf M → Option (MethodOf M)) (change_there : EntryOf N → Option (MethodOf N)) → ((m : EntryOf M) → change_there (map_entry f m) ≡ option_map (map_method f) (change m))
      → is_low_made b (map_image f i) (tree_made b (map_image f i) (f c) meta (f s) change_there) ≡ is_low_made a i (tree_made a i c meta s change)
  is_low_made-map c meta s change change_there e =
      ap (λ (o : Option (MethodOf N)). option_map_or (λ tree. is_low (normal tree).body) o false) (tree_made-map f a b keeps i c meta s change change_there e)
      ∙ or-total (map_method f) (λ tree. is_low (normal tree).body) (λ tree. is_low (normal tree).body) false normal_low (tree_made a i c meta s change)

  -- the method that a part becomes, and the one that sends its message
  pub new_low : (t : M) (m : EntryOf M) (part : Part) → is_low (method_of b (f t) (map_method f m.tree) part).body ≡ is_low (method_of a t m.tree part).body
  new_low t m part = ap (λ (k : MethodOf N). is_low k.body) (method_of-map f a b keeps.asked t m.tree part) ∙ is_low-map f (method_of a t m.tree part).body

  pub changed_low : (t : M) (m : EntryOf M) (part : Part)
      → is_low (normal (part_replaced (map_method f m.tree) part (call_of b (f t) (map_method f m.tree) part))).body ≡ is_low (normal (part_replaced m.tree part (call_of a t m.tree part))).body
  changed_low t m part =
      ap (λ (k : MethodOf N). is_low (normal k).body)
      (ap (part_replaced (map_method f m.tree) part) (call_of-map f a b keeps.asked keeps.self_name t m.tree part) ∙ part_replaced-map f m.tree part (call_of a t m.tree part))
      ∙ normal_low (part_replaced m.tree part (call_of a t m.tree part))

  pub are_low_extracted-map : (t : M) (m : EntryOf M) (part : Part) → are_low_extracted b (map_image f i) (f t) (map_entry f m) part ≡ are_low_extracted a i t m part
  are_low_extracted-map t m part = λ j. new_low t m part j && changed_low t m part j

  -- the getter, the setter, and what sends messages of them
  module _ (c x setter given : M) where
    -- a method, and a do-it
    abbrev pub method_low : EntryOf M → Bool
    method_low m = m.kernel || (not (is_meant a.words no_writing a.self_name c x setter given i (means a.words i m) m.tree.body) || is_low (method_made a.words no_writing a.self_name c x setter given i m).tree.body)

    abbrev pub method_low_there : N → EntryOf N → Bool
    method_low_there self_name m =
        m.kernel || (not (is_meant b.words no_writing self_name (f c) (f x) (f setter) (f given) (map_image f i) (means b.words (map_image f i) m) m.tree.body)
        || is_low (method_made b.words no_writing self_name (f c) (f x) (f setter) (f given) (map_image f i) m).tree.body)

    abbrev pub doit_low : DoItOf M → Bool
    doit_low d = not (is_meant a.words no_writing a.self_name c x setter given i (means_in_doit a.words i d) d.body) || is_low (doit_made a.words no_writing a.self_name c x setter given i d).body

    abbrev pub doit_low_there : N → DoItOf N → Bool
    doit_low_there self_name d =
        not (is_meant b.words no_writing self_name (f c) (f x) (f setter) (f given) (map_image f i) (means_in_doit b.words (map_image f i) d) d.body)
        || is_low (doit_made b.words no_writing self_name (f c) (f x) (f setter) (f given) (map_image f i) d).body

    pub method_low-map : (m : EntryOf M) → method_low_there (f a.self_name) (map_entry f m) ≡ method_low m
    method_low-map m =
        λ j. m.kernel || (not (is_meant-map f a.words b.words keeps.asked.words no_writing no_writing (unwritten f) a.self_name c x setter given i (means a.words i m) (means b.words (map_image f i) (map_entry f m))
        (means-there f a.words b.words keeps.asked.words i m) m.tree.body j) || made j)
      where
        made : is_low (method_made b.words no_writing (f a.self_name) (f c) (f x) (f setter) (f given) (map_image f i) (map_entry f m)).tree.body ≡ is_low (method_made a.words no_writing a.self_name c x setter given i m).tree.body
        made =
            ap (λ (k : EntryOf N). is_low k.tree.body) (method_made-map f a.words b.words keeps.asked.words no_writing no_writing (unwritten f) a.self_name c x setter given i m)
            ∙ is_low-map f (method_made a.words no_writing a.self_name c x setter given i m).tree.body

    pub doit_low-map : (d : DoItOf M) → doit_low_there (f a.self_name) (map_doit f d) ≡ doit_low d
    doit_low-map d =
        λ j. not (is_meant-map f a.words b.words keeps.asked.words no_writing no_writing (unwritten f) a.self_name c x setter given i (means_in_doit a.words i d) (means_in_doit b.words (map_image f i) (map_doit f d))
        (means_in_doit-there f a.words b.words keeps.asked.words i d) d.body j) || made j
      where
        made : is_low (doit_made b.words no_writing (f a.self_name) (f c) (f x) (f setter) (f given) (map_image f i) (map_doit f d)).body ≡ is_low (doit_made a.words no_writing a.self_name c x setter given i d).body
        made =
            ap (λ (k : DoItOf N). is_low k.body) (doit_made-map f a.words b.words keeps.asked.words no_writing no_writing (unwritten f) a.self_name c x setter given i d)
            ∙ is_low-map f (doit_made a.words no_writing a.self_name c x setter given i d).body

    pub are_low_abstracted-map : are_low_abstracted b (map_image f i) (f c) (f x) (f setter) (f given) ≡ are_low_abstracted a i c x setter given
    are_low_abstracted-map =
        ap (λ (n : N). is_low (getter (f x)).body && (is_low (setter_of (f x) (f setter) (f given)).body && (list_all (method_low_there n) (map_image f i).methods && list_all (doit_low_there n) (map_image f i).doits))) keeps.self_name
        ∙ (λ j. is_low (getter x).body && (is_low (setter_of x setter given).body
        && (all-total (map_entry f) method_low (method_low_there (f a.self_name)) method_low-map i.methods j && all-total (map_doit f) doit_low (doit_low_there (f a.self_name)) doit_low-map i.doits j)))
