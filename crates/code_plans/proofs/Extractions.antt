-- What comes of the user's method of which a part is extracted.
use Rattle.std.proofs.Common.{◌≡◌, ℕ, ◌<◌, Bool, true, false, cond, List, [], ◌∷◌, length, find, Option, None, Some, option_map, slice_get, sym, ap, subst, ◌∙◌}
use Rattle.std.specs.Prelude.{nat_eq, ◌&&◌, if◌then◌else◌}
use Rattle.std.specs.Bool.{beq}
use Rattle.std.specs.List.{AllByRecursion}
use Rattle.std.specs.Option.{option_map_or, option_and_then}
use Rattle.std.proofs.lemmas.Bool.{and_parts}
use Rattle.rb_base.specs.Names.{name_at}
use Rattle.tree_model.specs.Tree.{MethodOf, map_method}
use Rattle.tree_model.specs.AllNames.{MethodNames}
use Rattle.tree_model.specs.Normal.{normal}
use Rattle.text_model.specs.Whole.{canonical_method}
use Rattle.st_tree.specs.View as tree
use Rattle.st_tree.specs.declared.tree.Method.{Method}
use Rattle.image_model.specs.Image.{EntryOf}
use Rattle.image_model.specs.ImageNames.{EntryNames}
use Rattle.image_model.specs.Lookup.{is_method, own_method}
use Rattle.class_table.specs.declared.record.MethodRec.{MethodRec}
use Rattle.class_table.specs.Slots.{Slots}
use Rattle.class_table.specs.Valid.{IsLive, IsOrderly}
use Rattle.class_table.specs.View.{class_name, entry_of, number_image}
use Rattle.class_table.proofs.Live.{there}
use Rattle.class_questions.proofs.AnyLive.{live_at-live}
use Rattle.command_model.specs.Asked.{no_parts}
use Rattle.command_model.specs.CodeEffects.{part_at}
use Rattle.command_model.specs.Extracted.{part_replaced, call_of, method_of}
use Rattle.command_model.specs.Hierarchy.{is_method_of}
use Rattle.command_model.specs.Numbers.{number_asked}
use Rattle.command_model.specs.Parts.{Part}
use Rattle.command_model.specs.Places.{users_method}
use Rattle.commands.specs.Views.{asked_by, self_in}
use Rattle.commands.specs.declared.command.MethodPart.{MethodPart}
use Rattle.part_questions.specs.Parts.{part_of}
use Rattle.users_methods.specs.Users.{entry_in}
use Rattle.part_lookup.specs.Found.{found_in}
use Rattle.part_lookup.specs.declared.lookup.UsersPart.{UsersPart}
use Rattle.code_plans.specs.Behind.{behind_last, is_beside}
use Rattle.code_plans.specs.Extractions.{IsExtraction}
use Rattle.code_plans.proofs.Places.{behind_last-live, behind_last-found}
use Rattle.code_plans.proofs.KnownParts.{sender-known, method-known}

-- the method of a part that is found
parted-by : (locate : List ℕ → Option Part) (q : Option (EntryOf ℕ)) (e : EntryOf ℕ × Part) → option_and_then (λ (m : EntryOf ℕ). option_map (λ (p : Part). (m, p)) (locate m.source)) q ≡ Some e → q ≡ Some e.0
parted-by locate None e h = absurd (cc)
parted-by locate (Some m) e h = by (locate m.source) h
  where
    by : (o : Option Part) → option_map (λ (p : Part). (m, p)) o ≡ Some e → Some m ≡ Some e.0
    by None is = absurd (cc)
    by (Some p) is = let same : (m, p) ≡ e = cc in ap (λ (x : EntryOf ℕ × Part). Some x.0) same

-- the method that the class has
own-of : (q : Option (EntryOf ℕ)) (e : EntryOf ℕ) → option_and_then (λ (m : EntryOf ℕ). if m.kernel then None else Some m) q ≡ Some e → q ≡ Some e
own-of None e h = absurd (cc)
own-of (Some m) e h = by m.kernel h
  where
    by : (b : Bool) → (if b then None else Some m) ≡ Some e → Some m ≡ Some e
    by true is = absurd (cc)
    by false is = is

-- what holds of an item holds of the one that there is
pub of-some : {X : Type 0} (P : X → Type 0) (a x : X) → P a → Some a ≡ Some x → P x
of-some P a x is e = let same : a ≡ x = cc in subst P same is

-- what holds of each item holds of the one that is found
found-fact : {X : Type 0} (P : X → Type 0) (p : X → Bool) (xs : List X) (x : X) → AllByRecursion P xs → find p xs ≡ Some x → P x
found-fact P p [] x a h = absurd (cc)
found-fact {X} P p (y ∷ ys) x a h = by (p y) h (λ is. found-fact P p ys x a.1 is)
  where
    by : (b : Bool) → cond b (Some y) (find p ys) ≡ Some x → (find p ys ≡ Some x → P x) → P x
    by true is later = let same : y ≡ x = cc in subst P same a.0
    by false is later = later is

-- the methods of a class on a side
abbrev pub of_side : ℕ → Bool → EntryOf ℕ → Bool
of_side c meta m = is_method_of nat_eq c m && beq meta m.meta

module _ (s : Slots) (o : IsOrderly s) (c : ℕ) (meta : Bool) where
  -- the place behind the last of them
  beside-live : (k : ℕ) → IsLive s.method_order k → (r : MethodRec) × (slice_get s.methods k ≡ Some r) × (is_beside s c meta k ≡ of_side c meta (entry_of s.classes r))
  beside-live k l =
      let r = there s.methods k (o.method_order.below k l) in
      (r.0, r.1, ap (λ (q : Option MethodRec). option_map_or (λ (m : MethodRec). of_side c meta (entry_of s.classes m)) q false) (live_at-live s.methods s.method_order k l ∙ r.1))

  pub behind-methods : behind_last (of_side c meta) (number_image s).methods ≡ behind_last (is_beside s c meta) s.method_order
  behind-methods = behind_last-live (entry_of s.classes) s.methods (of_side c meta) (is_beside s c meta) s.method_order beside-live

module _ (s : Slots) (o : IsOrderly s) (part : MethodPart) (f : UsersPart)
    (is_there : option_map (found_in s.classes) (Some f) ≡ part_at (asked_by s.names) (number_image s) part.method.class part.method.meta part.method.selector part.from part.to) where
  abbrev c : ℕ
  c = part.method.class

  abbrev meta : Bool
  meta = part.method.meta

  abbrev entry : EntryOf ℕ
  entry = entry_in s.classes f.method

  abbrev found : Part
  found = part_of f.part

  abbrev t : MethodOf ℕ
  t = tree.method_of f.method.tree.now

  users : users_method nat_eq (number_image s) c meta part.method.selector ≡ Some entry
  users = parted-by (λ source. (asked_by s.names).part_of source part.from part.to) (users_method nat_eq (number_image s) c meta part.method.selector) (entry, found) (sym is_there)

  own : own_method nat_eq (number_image s).methods c meta part.method.selector ≡ Some entry
  own = own-of (own_method nat_eq (number_image s).methods c meta part.method.selector) entry users

  -- there is a method of the class on the side
  pub has-place : behind_last (is_beside s c meta) s.method_order ≡ None → ⊥
  has-place none =
      behind_last-found (of_side c meta) (is_method nat_eq c meta part.method.selector)
      (λ m h. (and_parts (of_side c meta m) (nat_eq part.method.selector m.tree.selector) h).0)
      (number_image s).methods entry own (behind-methods s o c meta ∙ none)

  known : MethodNames (λ n. n < length s.names) t
  known = (found-fact (λ (m : EntryOf ℕ). EntryNames (λ n. n < length s.names) m) (is_method nat_eq c meta part.method.selector) (number_image s).methods entry o.names_known.methods own).tree

  module _ (to self_name : ℕ) (names : List (List ℕ)) (table : names ≡ s.names) (self_is : self_name ≡ self_in s.names) (self_known : self_name < length s.names) (to_known : to < length s.names) where
    sender-is : (made : Method) → tree.method_of made ≡ normal (part_replaced t found (call_of (number_asked names self_name no_parts) to t found)) → tree.method_of made ≡ normal (part_replaced t found (call_of (asked_by s.names) to t found))
    sender-is made e = e ∙ (λ i. normal (part_replaced t found (call_of (number_asked (table i) (self_is i) no_parts) to t found)))

    method-is : (made : Method) → tree.method_of made ≡ method_of (number_asked names self_name no_parts) to t found → tree.method_of made ≡ method_of (asked_by s.names) to t found
    method-is made e = e ∙ (λ i. method_of (number_asked (table i) (self_is i) no_parts) to t found)

    new-known : (made : Method) → tree.method_of made ≡ method_of (number_asked names self_name no_parts) to t found → MethodNames (λ n. n < length s.names) (tree.method_of made)
    new-known made e = subst (λ (m : MethodOf ℕ). MethodNames (λ n. n < length s.names) m) (sym (method-is made e)) (method-known (λ n. n < length s.names) (asked_by s.names) t known found to to_known)

    -- its names are in the table
    pub writable : (made : Method) → tree.method_of made ≡ method_of (number_asked names self_name no_parts) to t found → MethodNames (λ n. n < length names) (tree.method_of made)
    writable made e = subst (λ (ns : List (List ℕ)). MethodNames (λ n. n < length ns) (tree.method_of made)) (sym table) (new-known made e)

    pub extraction : (sender method : Method) (protocol source : List ℕ) (place : ℕ)
        → tree.method_of sender ≡ normal (part_replaced t found (call_of (number_asked names self_name no_parts) to t found))
        → tree.method_of method ≡ method_of (number_asked names self_name no_parts) to t found
        → protocol ≡ f.method.protocol.now
        → source ≡ canonical_method (map_method (name_at names) (tree.method_of method))
        → class_name s.classes f.method.class ≡ Some c
        → IsLive s.class_order f.method.class
        → Some place ≡ behind_last (is_beside s c meta) s.method_order
        → IsExtraction s part to (record { sender = sender; rec = record { class = f.method.class; meta = meta; protocol = protocol; source = source; tree = method; kernel = false }; place = place })
    extraction sender method protocol source place first second third fourth named live at = record {
      entry = entry;
      found = found;
      there = sym is_there;
      sender = sender-is sender first;
      sender_known =
          subst (λ (m : MethodOf ℕ). MethodNames (λ n. n < length s.names) m) (sym (sender-is sender first))
          (sender-known (λ n. n < length s.names) (asked_by s.names) t known found to (subst (λ (n : ℕ). n < length s.names) self_is self_known) to_known);
      method = λ i. record {
        class = named i;
        meta = meta;
        protocol = third i;
        source = (fourth ∙ (λ j. canonical_method (map_method (name_at (table j)) (method-is method second j)))) i;
        tree = method-is method second i;
        kernel = false;
      };
      method_known = new-known method second;
      class_live = live;
      place = at;
    }
