-- The slots that hold a method are those that are listed under its selector and hold it.
use Rattle.std.proofs.Common.{◌≡◌, ◌⊎◌, inl, inr, ℕ, ◌&&◌, ◌||◌, not, Bool, true, false, cond, List, [], ◌∷◌, Option, None, Some, refl, sym, ap, ◌∙◌, true≢false}
use Rattle.std.specs.Prelude.{nat_eq, filter, Contains, if◌then◌else◌}
use Rattle.std.specs.Bool.{beq}
use Rattle.std.specs.List.{list_any, filter_map, cons_option}
use Rattle.std.specs.Option.{option_map_or}
use Rattle.std.proofs.lemmas.Bool.{or_cases, and_parts}
use Rattle.std.proofs.lemmas.List.Folds.{list_any_at}
use Rattle.st_tree.specs.View.{method_of}
use Rattle.image_model.specs.Image.{EntryOf}
use Rattle.image_model.specs.Lookup.{is_method}
use Rattle.mentions.specs.Mentions.{method_names}
use Rattle.mentions.proofs.Lists.{Contains-first}
use Rattle.class_table.specs.declared.record.MethodRec.{MethodRec}
use Rattle.class_table.specs.declared.record.Place.{Place}
use Rattle.class_table.specs.declared.record.Place.TheVariants as place
use Rattle.class_table.specs.Slots.{Slots}
use Rattle.class_table.specs.View.{entry_of, live_at}
use Rattle.class_table.proofs.Live.{eqb-equal, eqb-refl}
use Rattle.reference_index.specs.Mentioned.{Mentioned, IsIndexOf, ListsPlaces, names_at}
use Rattle.commands.specs.declared.command.MethodName.{MethodName}
use Rattle.code_questions.proofs.Witnesses.{same-truth}
use Rattle.users_methods.specs.Users.{is_named, is_users, named_at}

-- one test, beside that and another one
again : (a b : Bool) → ((a && b) && a) ≡ (a && b)
again true true = refl
again true false = refl
again false b = refl

-- whether a number is among those of a list that pass a test
any-filter : (p : ℕ → Bool) (k : ℕ) (xs : List ℕ) → list_any (nat_eq k) (filter p xs) ≡ (p k && list_any (nat_eq k) xs)
any-filter p k [] = by (p k)
  where
    by : (b : Bool) → false ≡ (b && false)
    by true = refl
    by false = refl
any-filter p k (x ∷ xs) = by (p x) refl (nat_eq k x) refl (p k) refl (any-filter p k xs)
  where
    by : (b : Bool) → p x ≡ b → (e : Bool) → nat_eq k x ≡ e → (d : Bool) → p k ≡ d → list_any (nat_eq k) (filter p xs) ≡ (p k && list_any (nat_eq k) xs)
        → list_any (nat_eq k) (cond b (x ∷ filter p xs) (filter p xs)) ≡ (p k && (nat_eq k x || list_any (nat_eq k) xs))
    by true q true r d t rest = (λ i. r i || list_any (nat_eq k) (filter p xs)) ∙ sym (λ i. (ap p (eqb-equal k x r) ∙ q) i && (r i || list_any (nat_eq k) xs))
    by true q false r d t rest = (λ i. r i || list_any (nat_eq k) (filter p xs)) ∙ rest ∙ (λ i. p k && (sym r i || list_any (nat_eq k) xs))
    by false q true r d t rest =
        let no : p k ≡ false = ap p (eqb-equal k x r) ∙ q in
        rest ∙ (λ i. no i && list_any (nat_eq k) xs) ∙ (λ i. sym no i && (nat_eq k x || list_any (nat_eq k) xs))
    by false q false r d t rest = rest ∙ (λ i. p k && (sym r i || list_any (nat_eq k) xs))

module _ (s : Slots) (method : MethodName) where
  -- a slot that holds the method mentions the selector
  named-mentions : (k : ℕ) → is_named s method k ≡ true → Contains (names_at s (place.Method k)) method.selector
  named-mentions k = by (live_at s.methods s.method_order k)
    where
      own : (m : EntryOf ℕ) → is_method nat_eq method.class method.meta method.selector m ≡ true → Contains (method_names m.tree) method.selector
      own m e =
          Contains-first m.tree.selector method.selector _ (sym (eqb-equal method.selector m.tree.selector (and_parts (option_map_or (nat_eq method.class) m.class false && beq method.meta m.meta) (nat_eq method.selector m.tree.selector) e).1))

      by : (o : Option MethodRec) → option_map_or (λ (m : MethodRec). is_method nat_eq method.class method.meta method.selector (entry_of s.classes m)) o false ≡ true
          → Contains (option_map_or (λ (m : MethodRec). method_names (method_of m.tree)) o []) method.selector
      by None t = absurd (true≢false (sym t))
      by (Some m) t = own (entry_of s.classes m) t

  -- whether a slot is the one of a place that holds the method
  abbrev is_at : ℕ → Place → Bool
  is_at k p = list_any (nat_eq k) (cons_option (named_at s method p) [])

  or-nothing : (b : Bool) → (b || false) ≡ b
  or-nothing true = refl
  or-nothing false = refl

  -- the slots of places have one where a place has it
  at-places : (k : ℕ) (ps : List Place) → list_any (nat_eq k) (filter_map (named_at s method) ps) ≡ list_any (is_at k) ps
  at-places k [] = refl
  at-places k (p ∷ ps) = by (named_at s method p) (at-places k ps)
    where
      by : (o : Option ℕ) → list_any (nat_eq k) (filter_map (named_at s method) ps) ≡ list_any (is_at k) ps
          → list_any (nat_eq k) (cons_option o (filter_map (named_at s method) ps)) ≡ (list_any (nat_eq k) (cons_option o []) || list_any (is_at k) ps)
      by None rest = rest
      by (Some j) rest = (λ i. nat_eq k j || rest i) ∙ (λ i. sym (or-nothing (nat_eq k j)) i || list_any (is_at k) ps)

  -- a place that has it holds it there
  holds-there : (k : ℕ) (ps : List Place) → list_any (is_at k) ps ≡ true → is_named s method k ≡ true
  holds-there k [] e = absurd (true≢false (sym e))
  holds-there k (p ∷ ps) e = by (or_cases (is_at k p) (list_any (is_at k) ps) e) (holds-there k ps)
    where
      slot : (j : ℕ) (b : Bool) → is_named s method j ≡ b → list_any (nat_eq k) (cons_option (if b then Some j else None) []) ≡ true → is_named s method k ≡ true
      slot j true q h = ap (is_named s method) (eqb-equal k j (sym (or-nothing (nat_eq k j)) ∙ h)) ∙ q
      slot j false q h = absurd (true≢false (sym h))

      one : (q : Place) → is_at k q ≡ true → is_named s method k ≡ true
      one (place.Method j) h = slot j (is_named s method j) refl h
      one (place.DoIt n) h = absurd (true≢false (sym h))

      by : (is_at k p ≡ true) ⊎ (list_any (is_at k) ps ≡ true) → (list_any (is_at k) ps ≡ true → is_named s method k ≡ true) → is_named s method k ≡ true
      by (inl h) rest = one p h
      by (inr h) rest = rest h

  is-at-own : (k : ℕ) → is_named s method k ≡ true → is_at k (place.Method k) ≡ true
  is-at-own k e = ap (λ (b : Bool). list_any (nat_eq k) (cons_option (if b then Some k else None) [])) e ∙ or-nothing (nat_eq k k) ∙ eqb-refl k

  -- the slots that are found at the listed places are all
  pub listed-named : (x : Mentioned) (places : List Place) → IsIndexOf s x → ListsPlaces x method.selector places → (k : ℕ) → list_any (nat_eq k) (filter_map (named_at s method) places) ≡ is_named s method k
  listed-named x places index lists k =
      at-places k places
      ∙ same-truth (list_any (is_at k) places) (is_named s method k) (holds-there k places)
      (λ e.
      let c = (lists.members (place.Method k)).1 (((index (place.Method k)).members method.selector).1 (named-mentions k e)) in
      list_any_at (is_at k) places c.0 (place.Method k) c.1 (ap (is_at k) c.2 ∙ is-at-own k e))

  abbrev same : MethodRec → Bool
  same m = is_method nat_eq method.class method.meta method.selector (entry_of s.classes m)

  -- and those of the user are the ones among them
  users-named : (k : ℕ) → (is_users s method k && is_named s method k) ≡ is_users s method k
  users-named k = by (live_at s.methods s.method_order k)
    where
      by : (o : Option MethodRec) → (option_map_or (λ (m : MethodRec). same m && not m.kernel) o false && option_map_or same o false) ≡ option_map_or (λ (m : MethodRec). same m && not m.kernel) o false
      by None = refl
      by (Some m) = again (same m) (not m.kernel)

  pub users-listed : (found : List ℕ) → ((k : ℕ) → list_any (nat_eq k) found ≡ is_named s method k) → (k : ℕ) → list_any (nat_eq k) (filter (is_users s method) found) ≡ is_users s method k
  users-listed found all k = any-filter (is_users s method) k found ∙ ap (λ (b : Bool). is_users s method k && b) (all k) ∙ users-named k
