-- What the chunks of a change file say.
use Rattle.std.proofs.Common.{◌≡◌, ℕ, Bool, true, false, List, [], Option, Some, None, refl, ap, ◌∙◌}
use Rattle.std.specs.Prelude.{codes, ◌&&◌, ℤ, if◌then◌else◌}
use Rattle.std.specs.Fmt.{decimal}
use Rattle.std.specs.Option.{option_map, option_map_or}
use Rattle.rb_base.specs.Names.{text_eq}
use Rattle.token_model.specs.declared.kind.Dialect.TheVariants.{Second}
use Rattle.image_model.specs.Image.{ClassOf}
use Rattle.image_model.specs.Valid.{GivesNames}
use Rattle.file_model.specs.Applied.{new_class}
use Rattle.file_model.specs.Changes.{DefinitionOf, ChangeOf, RunOf, Define, DefineAt, Comment, SetClassSide, RemoveMethod, RemoveClass}
use Rattle.file_model.specs.Filing.{Text}
use Rattle.file_model.specs.Forms.{Form, Changes, OpensAt, Settles, no_form, at_place, form_of, Replacement, replacement_in}
use Rattle.file_rereading.specs.Trees.{definition_tree}
use Rattle.file_rereading.proofs.Says.{says_definition, says_class_side, says_comment, not_to_system}
use Rattle.change_file_laws.specs.Stated.{MayName, IsStatedNumber, IsStatedDefinition, IsStatedChange}
use Rattle.change_file_laws.specs.Trees.{removal_tree, settling_tree, replacement_tree, placed_opening_tree, placed_definition_tree, change_tree}
use Rattle.change_file_laws.proofs.Numbers.{numeral_value, place_stated}

-- the class of a definition gives names that may be given
pub gives : (d : DefinitionOf Text) → IsStatedDefinition d → GivesNames MayName (new_class false d)
gives d s = record { name = s.named; instance = s.instance; class_side = tt; shared = s.shared }

-- a class of a name, with these class-instance variables and this comment, for what is said of these alone
abbrev pub known_as : Text → List Text → Text → ClassOf Text
known_as n names text = record {
  name = n;
  superclass = None;
  instance = [];
  shared = [];
  class_side = names;
  category = [];
  comment = text;
  kernel = false;
}

-- a definition with a place
says_placed_definition : (d : DefinitionOf Text) (k : ℕ) → IsStatedDefinition d → IsStatedNumber k → form_of Second false (placed_definition_tree (new_class false d) (decimal k)) ≡ Changes (DefineAt d k)
says_placed_definition d k s n =
    let defined : Form = form_of Second false (definition_tree (new_class false d)) in
    ap (λ (o : Option ℕ). option_map_or (λ (m : ℕ). at_place m defined) o no_form) (place_stated k n)
    ∙ ap (at_place k) (says_definition (new_class false d) s.above s.under (gives d s))

-- a removal
says_removal : (c : Text) (meta : Bool) (s : Text) → form_of Second false (removal_tree c meta s) ≡ Changes (RemoveMethod c meta s)
says_removal c true s = refl
says_removal c false s = not_to_system (codes "removeSelector:") refl refl (text_eq c (codes "Smalltalk")) (Changes (RemoveMethod c false s))

-- a change
pub says_change : (c : ChangeOf Text) → IsStatedChange c → form_of Second false (change_tree c) ≡ Changes c
says_change (Define d) s = says_definition (new_class false d) s.above s.under (gives d s)
says_change (DefineAt d k) s = says_placed_definition d k s.0 s.1
says_change (Comment n text) s = says_comment (known_as n [] text)
says_change (SetClassSide n names) s = says_class_side (known_as n names []) (record { name = s.0; instance = tt; class_side = s.1; shared = tt })
says_change (RemoveMethod c meta t) s = says_removal c meta t
says_change (RemoveClass n) s = refl

-- the settling of places, which replaces nothing
pub says_settling : form_of Second false settling_tree ≡ Settles
says_settling = refl

pub settling_alone : replacement_in settling_tree ≡ None
settling_alone = refl

-- the replacement of a do-it
pub says_replacement : (k : ℕ) (source : Text) → IsStatedNumber k → replacement_in (replacement_tree (decimal k) source) ≡ Some (record { numeral = decimal k; source = source })
says_replacement k source n = ap (λ (o : Option ℤ). option_map (λ (z : ℤ). record { numeral = decimal k; source = source }) o) (numeral_value k n)

-- the opening of a run that states a place
pub says_placed_opening : (r : RunOf Text) (k : ℕ) → IsStatedNumber k → form_of Second false (placed_opening_tree r (decimal k)) ≡ OpensAt r k
says_placed_opening r k n = by r.class r.meta r.protocol
  where
    by : (c : Text) (meta : Bool) (protocol : Text) → form_of Second false (placed_opening_tree (record { class = c; meta = meta; protocol = protocol }) (decimal k)) ≡ OpensAt (record { class = c; meta = meta; protocol = protocol }) k
    by c true protocol = ap (λ (o : Option ℕ). option_map_or (OpensAt (record { class = c; meta = true; protocol = protocol })) o no_form) (place_stated k n)
    by c false protocol = ap (λ (o : Option ℕ). option_map_or (OpensAt (record { class = c; meta = false; protocol = protocol })) o no_form) (place_stated k n)

-- which replaces nothing
pub opening_alone : (r : RunOf Text) (numeral : Text) → replacement_in (placed_opening_tree r numeral) ≡ None
opening_alone r numeral = by r.class r.meta r.protocol
  where
    never : (b : Bool) (o : Option Replacement) → (if b && false then o else None) ≡ None
    never true o = refl
    never false o = refl

    by : (c : Text) (meta : Bool) (protocol : Text) → replacement_in (placed_opening_tree (record { class = c; meta = meta; protocol = protocol }) numeral) ≡ None
    by c true protocol = refl
    by c false protocol = never (text_eq c (codes "Smalltalk")) None
