-- What conditions of classes and variables tell of a valid image.
use Rattle.std.proofs.Common.{◌≡◌, ◌⊎◌, inl, inr, Bool, true, false, not, List, length, Option, Some, refl, sym, ap, subst, ◌∙◌, true≢false}
use Rattle.std.specs.Prelude.{◌||◌, ◌&&◌, nat_le, codes}
use Rattle.std.specs.List.{list_any}
use Rattle.std.specs.Option.{option_map_or}
use Rattle.std.proofs.lemmas.Bool.{and_parts, or_parts, not-true}
use Rattle.rb_base.specs.Names.{text_eq}
use Rattle.rb_base.proofs.NamesLemmas.{text_eq-refl}
use Rattle.scope_model.specs.SpecialNames.{is_pseudo_variable}
use Rattle.text_model.specs.Literals.{is_identifier}
use Rattle.image_model.specs.Image.{ClassOf, ImageOf}
use Rattle.image_model.specs.Chain.{class_named, chain_from, chain}
use Rattle.image_model.specs.Means.{VariableKind, of_instance, of_class_side, of_class, variables}
use Rattle.file_model.specs.Filing.{Text}
use Rattle.rename_model.specs.CommandWords.{may_be_declared, begins_upper, is_good_class_name, is_good_variable_name}
use Rattle.rename_model.specs.NamesThere.{is_named_by_class, is_named}
use Rattle.rename_model.specs.Conditions.{is_user_class, has_variable, defines, stands_below, is_name_unused}
use Rattle.command_model.specs.Hierarchy.{is_child}
use Rattle.effect_laws.proofs.Items.{In}
use Rattle.effect_laws.proofs.Above.{IsAbove, one_named, on_chain}
use Rattle.effect_laws.proofs.Sound.{MayBeName, AreSoundClasses}
use Rattle.effect_laws.proofs.Tests.{in_any, none_in, among, not_among, differ, told_apart, same_or_not, there_passes, HasName, has_name}

-- the order of names does not matter
pub text_turned : (m n : Text) → text_eq m n ≡ text_eq n m
text_turned m n = by (same_or_not m n)
  where
    by : (m ≡ n) ⊎ (m ≡ n → ⊥) → text_eq m n ≡ text_eq n m
    by (inl e) = ap (text_eq m) (sym e) ∙ ap (λ t. text_eq t m) e
    by (inr d) = told_apart m n d ∙ sym (told_apart n m (λ e. d (sym e)))

-- a name that may be declared is one that may be given
pub declared_name : (n : Text) → may_be_declared n ≡ true → MayBeName n
declared_name n h =
    let word = and_parts (nat_le (length n) 200) (is_identifier n && not (is_pseudo_variable n || (text_eq (codes "Smalltalk") n || text_eq (codes "Transcript") n))) h in
    (λ i. is_identifier n && not (is_pseudo_variable n || (text_turned n (codes "Smalltalk") i || text_turned n (codes "Transcript") i))) ∙ word.1

pub class_name_good : (n : Text) → is_good_class_name n ≡ true → MayBeName n
class_name_good n h = declared_name n (and_parts (may_be_declared n) (begins_upper n) h).0

pub variable_name_good : (n : Text) → is_good_variable_name n ≡ true → MayBeName n
variable_name_good n h = declared_name n (and_parts (may_be_declared n) (not (begins_upper n)) h).0

-- a class of the user
pub user_class : (i : ImageOf Text) (c : Text) → is_user_class text_eq i c ≡ true → (e : ClassOf Text) × HasName i.classes c e × (e.kernel ≡ false)
user_class i c h =
    let r = there_passes (λ (e : ClassOf Text). not e.kernel) (class_named text_eq i.classes c) h in
    (r.0, has_name i.classes c r.0 r.1, not-true r.0.kernel r.2)

-- a class with its variable
pub variable_there : (i : ImageOf Text) (kind : VariableKind) (c x : Text) → has_variable text_eq i kind c x ≡ true → (e : ClassOf Text) × HasName i.classes c e × In (variables kind e) x
variable_there i kind c x h =
    let r = there_passes (λ (e : ClassOf Text). list_any (text_eq x) (variables kind e)) (class_named text_eq i.classes c) h in
    (r.0, has_name i.classes c r.0 r.1, among x (variables kind r.0) r.2)

-- a class that does not define a variable
pub defines_none : (x : Text) (e : ClassOf Text) → defines text_eq x e ≡ false → (kind : VariableKind) → In (variables kind e) x → ⊥
defines_none x e h kind k = by kind k
  where
    first : (list_any (text_eq x) e.instance ≡ false) × ((list_any (text_eq x) e.shared || list_any (text_eq x) e.class_side) ≡ false)
    first = or_parts (list_any (text_eq x) e.instance) (list_any (text_eq x) e.shared || list_any (text_eq x) e.class_side) h

    second : (list_any (text_eq x) e.shared ≡ false) × (list_any (text_eq x) e.class_side ≡ false)
    second = or_parts (list_any (text_eq x) e.shared) (list_any (text_eq x) e.class_side) first.1

    by : (k : VariableKind) → In (variables k e) x → ⊥
    by of_instance l = not_among x e.instance first.0 l
    by of_class_side l = not_among x e.class_side second.1 l
    by of_class l = not_among x e.shared second.0 l

-- a direct subclass
pub child_of : (c : Text) (e : ClassOf Text) → is_child text_eq c e ≡ true → e.superclass ≡ Some c
child_of c e h = let r = there_passes (text_eq c) e.superclass h in r.1 ∙ ap Some (sym (name r.0 r.2))
  where
    name : (n : Text) → text_eq c n ≡ true → c ≡ n
    name n t = by (same_or_not c n)
      where
        by : (c ≡ n) ⊎ (c ≡ n → ⊥) → c ≡ n
        by (inl e) = e
        by (inr d) = absurd (true≢false (sym t ∙ told_apart c n d))

pub is_child_of : (c : Text) (e : ClassOf Text) → e.superclass ≡ Some c → is_child text_eq c e ≡ true
is_child_of c e h = ap (λ o. option_map_or (text_eq c) o false) h ∙ text_eq-refl c

-- none of three
pub none_of_three : (a b c : Bool) → not (a || (b || c)) ≡ true → (a ≡ false) × (b ≡ false)
none_of_three true b c h = absurd (true≢false (sym h))
none_of_three false true c h = absurd (true≢false (sym h))
none_of_three false false c h = (refl, refl)

pub third_of_three : (a b c : Bool) → not (a || (b || c)) ≡ true → c ≡ false
third_of_three true b c h = absurd (true≢false (sym h))
third_of_three false true c h = absurd (true≢false (sym h))
third_of_three false false true h = absurd (true≢false (sym h))
third_of_three false false false h = refl

module _ (kernel : ImageOf Text) (cs : List (ClassOf Text)) (s : AreSoundClasses kernel cs) (c x : Text) (e : ClassOf Text) (is : HasName cs c e) where
  -- the class of the name is the only one
  pub the_one : (d : ClassOf Text) → In cs d → c ≡ d.name → e ≡ d
  the_one d h q = one_named cs s.distinct e d is.there h (sym is.name ∙ q)

  -- what the class and those above it do not define
  pub undefined_above : list_any (defines text_eq x) (chain text_eq cs (Some c)) ≡ false → (a : ClassOf Text) → (e ≡ a) ⊎ IsAbove cs a e → (kind : VariableKind) → In (variables kind a) x → ⊥
  undefined_above h a up =
      defines_none x a
      (none_in (defines text_eq x) (chain text_eq cs (Some c)) h a (subst (λ (o : Option (ClassOf Text)). In (chain_from text_eq cs o) a) (sym is.found) (on_chain cs s.distinct s.before a e is.there up)))

  -- a class below it stands below
  pub below_it : (d : ClassOf Text) → In cs d → (d ≡ e) ⊎ IsAbove cs e d → stands_below text_eq cs c d ≡ true
  below_it d h up = in_any (λ (b : ClassOf Text). text_eq c b.name) (chain_from text_eq cs (Some d)) e (on_chain cs s.distinct s.before e d h up) (ap (text_eq c) (sym is.name) ∙ text_eq-refl c)

  -- what those below it do not define
  pub undefined_below : list_any (λ (d : ClassOf Text). stands_below text_eq cs c d && defines text_eq x d) cs ≡ false → (d : ClassOf Text) → In cs d → IsAbove cs e d → (kind : VariableKind) → In (variables kind d) x → ⊥
  undefined_below h d there up =
      defines_none x d
      (ap (λ b. b && defines text_eq x d) (sym (below_it d there (inr up)))
      ∙ none_in (λ (b : ClassOf Text). stands_below text_eq cs c b && defines text_eq x b) cs h d there)

-- nothing has the name: no class
pub unnamed_classes : (i : ImageOf Text) (n : Text) → is_name_unused text_eq i n ≡ true → (e : ClassOf Text) → In i.classes e → is_named_by_class text_eq n e ≡ false
unnamed_classes i n h e there =
    none_in (is_named_by_class text_eq n) i.classes (or_parts (list_any (is_named_by_class text_eq n) i.classes) _ (not-true (is_named text_eq i n) h)).0 e there

-- and no class variable
pub unnamed_parts : (n : Text) (e : ClassOf Text) → is_named_by_class text_eq n e ≡ false → (n ≡ e.name → ⊥) × (In e.instance n → ⊥) × (In e.shared n → ⊥) × (In e.class_side n → ⊥)
unnamed_parts n e h =
    let a = or_parts (text_eq n e.name) (list_any (text_eq n) e.instance || (list_any (text_eq n) e.shared || list_any (text_eq n) e.class_side)) h in
    let b = or_parts (list_any (text_eq n) e.instance) (list_any (text_eq n) e.shared || list_any (text_eq n) e.class_side) a.1 in
    let c = or_parts (list_any (text_eq n) e.shared) (list_any (text_eq n) e.class_side) b.1 in
    (differ n e.name a.0, not_among n e.instance b.0, not_among n e.shared c.0, not_among n e.class_side c.1)
