-- What the conditions of a part tell.
use Rattle.std.proofs.Common.{◌≡◌, ℕ, Bool, true, false, not, List, Option, Some, None, option_and_then, option_map, refl, sym, ap, ◌∙◌, true≢false}
use Rattle.std.specs.Prelude.{◌&&◌, codes}
use Rattle.std.specs.Str.{bytes_eq}
use Rattle.std.proofs.lemmas.Bool.{and_parts, not-true}
use Rattle.rb_base.specs.Names.{text_eq}
use Rattle.rb_base.proofs.NamesLemmas.{text_eq-refl}
use Rattle.tree_model.specs.Tree.{TreeOf, var, literal, send, cascade, assign, block, brace, return, MethodOf}
use Rattle.tree_model.specs.Path.{part_in}
use Rattle.image_model.specs.Image.{EntryOf, ImageOf}
use Rattle.image_model.specs.Lookup.{is_method, own_method}
use Rattle.reread_law.specs.WellFormed.{IsValue}
use Rattle.reread_law.specs.WholeTrees.{WellFormedMethod}
use Rattle.file_model.specs.Filing.{Text}
use Rattle.file_laws.proofs.Moves.{text_equal}
use Rattle.command_model.specs.Asked.{text_asked}
use Rattle.command_model.specs.Parts.{Part, Expression}
use Rattle.command_model.specs.Places.{users_method, is_return, is_in_place}
use Rattle.command_model.specs.SameMethods.{is_super_node}
use Rattle.command_model.specs.PartConditions.{is_part}
use Rattle.command_model.specs.CodeEffects.{part_at}
use Rattle.command_model.proofs.UsersMethods.{users-own}
use Rattle.effect_laws.proofs.Items.{In, finds}
use Rattle.effect_laws.proofs.Sound.{IsSound}
use Rattle.effect_laws.proofs.Tests.{there_passes}
use Rattle.effect_laws.proofs.TemporariesKept.{users_mark}
use Rattle.effect_laws.proofs.MethodCommands.{found_in, signature_of}
use Rattle.effect_laws.proofs.WholeTrees.{well_of}
use Rattle.code_effect_laws.proofs.Methods.{IsProperMethod, method_proper}

-- what is neither a return nor `super` has a value
super_other : (n : Text) → text_eq (codes "super") n ≡ false → bytes_eq n (codes "super") ≡ false
super_other n h = by (text_eq n (codes "super")) refl
  where
    by : (b : Bool) → text_eq n (codes "super") ≡ b → text_eq n (codes "super") ≡ false
    by true e = absurd (true≢false (sym (text_eq-refl (codes "super")) ∙ sym (ap (text_eq (codes "super")) (text_equal n (codes "super") e)) ∙ h))
    by false e = e

pub part_value : (t : TreeOf Text) → is_return t ≡ false → is_super_node (text_eq (codes "super")) t ≡ false → IsValue t
part_value (var n) r s = super_other n s
part_value (literal l) r s = tt
part_value (send q u xs) r s = tt
part_value (cascade q ms) r s = tt
part_value (assign n t) r s = tt
part_value (block ps ts ss e) r s = tt
part_value (brace ts) r s = tt
part_value (return t) r s = absurd (true≢false r)

-- a method of the user that a command names
pub record IsNamed (kernel i : ImageOf Text) (c : Text) (meta : Bool) (t : Text) (its : EntryOf Text) : Type 0 where
  pub named : users_method text_eq i c meta t ≡ Some its
  pub found : own_method text_eq i.methods c meta t ≡ Some its
  pub user : its.kernel ≡ false
  pub selected : its.tree.selector ≡ t
  pub there : In i.methods its
  pub well : WellFormedMethod false its.tree
  pub proper : IsProperMethod its.tree

pub is_named : (kernel i : ImageOf Text) → IsSound kernel i → (c : Text) (meta : Bool) (t : Text) (its : EntryOf Text) → users_method text_eq i c meta t ≡ Some its → IsNamed kernel i c meta t its
is_named kernel i s c meta t its e =
    let own = users-own text_eq i c meta t its e in
    let user = users_mark i c meta t its e in
    let here = found_in (is_method text_eq c meta t) i.methods its own in
    let good = well_of kernel its (s.methods.spelled its here user) in
    record {
      named = e;
      found = own;
      user = user;
      selected = ap (λ (u : _). u.2) (signature_of c meta t its (finds (is_method text_eq c meta t) i.methods its own));
      there = here;
      well = good;
      proper = method_proper its.tree good;
    }

-- a part of such a method
pub record HasPart (i : ImageOf Text) (c : Text) (meta : Bool) (t : Text) (from to : ℕ) (e : EntryOf Text × Part) : Type 0 where
  pub named : users_method text_eq i c meta t ≡ Some e.0
  pub located : text_asked.part_of e.0.source from to ≡ Some e.1

pub has_part : (i : ImageOf Text) (c : Text) (meta : Bool) (t : Text) (from to : ℕ) (e : EntryOf Text × Part) → part_at text_asked i c meta t from to ≡ Some e → HasPart i c meta t from to e
has_part i c meta t from to e h = by (users_method text_eq i c meta t) refl h
  where
    within : (m : EntryOf Text) → users_method text_eq i c meta t ≡ Some m → (o : Option Part) → text_asked.part_of m.source from to ≡ o → option_map (λ (p : Part). (m, p)) o ≡ Some e → HasPart i c meta t from to e
    within m q None r g = absurd (cc)
    within m q (Some p) r g =
        let same : (m, p) ≡ e = cc in
        record { named = q ∙ ap (λ (x : EntryOf Text × Part). Some x.0) same; located = ap (λ (x : EntryOf Text × Part). text_asked.part_of x.0.source from to) (sym same) ∙ r ∙ ap (λ (x : EntryOf Text × Part). Some x.1) same }

    by : (o : Option (EntryOf Text)) → users_method text_eq i c meta t ≡ o → option_and_then (λ (m : EntryOf Text). option_map (λ (p : Part). (m, p)) (text_asked.part_of m.source from to)) o ≡ Some e → HasPart i c meta t from to e
    by None q g = absurd (cc)
    by (Some m) q g = within m q (text_asked.part_of m.source from to) refl g

-- a part that is an expression, and may be taken out
pub record IsExpressionAt (m : MethodOf Text) (path : List ℕ) : Type 0 where
  pub node : TreeOf Text
  pub there : part_in m.body path ≡ Some node
  pub value : IsValue node

pub expression_at : (m : MethodOf Text) (path : List ℕ) → is_part text_asked m (Expression path) ≡ true → IsExpressionAt m path
expression_at m path h =
    let test : TreeOf Text → Bool = λ t. not (is_super_node text_asked.is_super t) && not (is_in_place text_asked.words.tests.form m.body path) in
    let p = there_passes (λ t. not (is_return t) && test t) (part_in m.body path) h in
    let a = and_parts (not (is_return p.0)) (test p.0) p.2 in
    let b = and_parts (not (is_super_node text_asked.is_super p.0)) (not (is_in_place text_asked.words.tests.form m.body path)) a.1 in
    record { node = p.0; there = p.1; value = part_value p.0 (not-true (is_return p.0) a.0) (not-true (is_super_node text_asked.is_super p.0) b.0) }
