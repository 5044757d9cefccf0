-- Changes of classes that concern the variables of one name and one kind alone.
use Rattle.std.proofs.Common.{◌≡◌, List, refl, sym, ap, ◌∙◌, subst}
use Rattle.std.specs.Prelude.{Bool, true, false, if◌then◌else◌}
use Rattle.std.specs.List.{list_any}
use Rattle.std.proofs.lemmas.Bool.{false≢true}
use Rattle.rb_base.specs.Names.{text_eq}
use Rattle.image_model.specs.Image.{ClassOf}
use Rattle.image_model.specs.Replaced.{KeepsHierarchy}
use Rattle.image_model.specs.Means.{VariableKind, of_instance, of_class_side, of_class, variables}
use Rattle.image_model.specs.Uses.{same_kind}
use Rattle.run_model.specs.Values.{Name}
use Rattle.run_model.proofs.Finite.{by_cases}
use Rattle.rename_model.specs.VariableRenamed.{with_variables}
use Rattle.rename_laws.proofs.VariableClasses.{kind-same}
use Rattle.variable_laws.proofs.NamesPut.{KeepsOthers}

-- a class with other variables of a kind has its name and its superclass
with-name : (k : VariableKind) (xs : List Name) (e : ClassOf Name) → (with_variables k xs e).name ≡ e.name
with-name of_instance xs e = refl
with-name of_class_side xs e = refl
with-name of_class xs e = refl

with-superclass : (k : VariableKind) (xs : List Name) (e : ClassOf Name) → (with_variables k xs e).superclass ≡ e.superclass
with-superclass of_instance xs e = refl
with-superclass of_class_side xs e = refl
with-superclass of_class xs e = refl

-- it has these variables of the kind
pub with-own : (k : VariableKind) (xs : List Name) (e : ClassOf Name) → variables k (with_variables k xs e) ≡ xs
with-own of_instance xs e = refl
with-own of_class_side xs e = refl
with-own of_class xs e = refl

-- and those of other kinds that it had
with-other : (j k : VariableKind) (xs : List Name) (e : ClassOf Name) → same_kind j k ≡ false → variables k (with_variables j xs e) ≡ variables k e
with-other of_instance of_instance xs e h = absurd (false≢true (sym h))
with-other of_instance of_class_side xs e h = refl
with-other of_instance of_class xs e h = refl
with-other of_class_side of_instance xs e h = refl
with-other of_class_side of_class_side xs e h = absurd (false≢true (sym h))
with-other of_class_side of_class xs e h = refl
with-other of_class of_instance xs e h = refl
with-other of_class of_class_side xs e h = refl
with-other of_class of_class xs e h = absurd (false≢true (sym h))

-- whether a class defines a variable of a kind by a name
abbrev pub defining : VariableKind → Name → ClassOf Name → Bool
defining k n e = list_any (text_eq n) (variables k e)

-- a fact of either of two classes
either : (P : ClassOf Name → Type 0) (b : Bool) (d e : ClassOf Name) → P d → P e → P (if b then d else e)
either P true d e p q = p
either P false d e p q = q

module _ (kind : VariableKind) (x : Name) where
  -- the class with a changed list of the variables of the kind
  abbrev pub with_list : (List Name → List Name) → ClassOf Name → ClassOf Name
  with_list h e = with_variables kind (h (variables kind e)) e

  -- each class keeps its name and its superclass, defines each variable of another name as before, and each of another kind
  pub record ConcernsVariable (g : ClassOf Name → ClassOf Name) : Type 0 where
    pub hierarchy : (e : ClassOf Name) → KeepsHierarchy g e
    pub others : (k : VariableKind) (n : Name) (e : ClassOf Name) → text_eq x n ≡ false → defining k n (g e) ≡ defining k n e
    pub other_kinds : (k : VariableKind) (n : Name) (e : ClassOf Name) → same_kind kind k ≡ false → defining k n (g e) ≡ defining k n e

  -- so does a change of the list of the kind that concerns no other name
  list-others : (h : List Name → List Name) → KeepsOthers x h → (k : VariableKind) (n : Name) (e : ClassOf Name) → text_eq x n ≡ false → defining k n (with_list h e) ≡ defining k n e
  list-others h keeps k n e t =
      by_cases (same_kind kind k)
      (λ s. subst (λ l. defining l n (with_list h e) ≡ defining l n e) (kind-same kind k s) (ap (list_any (text_eq n)) (with-own kind (h (variables kind e)) e) ∙ keeps n t (variables kind e)))
      (λ s. ap (list_any (text_eq n)) (with-other kind k (h (variables kind e)) e s))

  pub concerns-list : (h : List Name → List Name) → KeepsOthers x h → ConcernsVariable (with_list h)
  concerns-list h keeps = record {
    hierarchy = λ e. record { name = with-name kind (h (variables kind e)) e; superclass = with-superclass kind (h (variables kind e)) e };
    others = list-others h keeps;
    other_kinds = λ k n e s. ap (list_any (text_eq n)) (with-other kind k (h (variables kind e)) e s);
  }

  -- a class that stays
  pub concerns-none : ConcernsVariable (λ e. e)
  concerns-none = record { hierarchy = λ e. record { name = refl; superclass = refl }; others = λ k n e t. refl; other_kinds = λ k n e s. refl }

  -- one change or another
  pub concerns-either : (b : ClassOf Name → Bool) (g h : ClassOf Name → ClassOf Name) → ConcernsVariable g → ConcernsVariable h → ConcernsVariable (λ e. if b e then g e else h e)
  concerns-either b g h p q = record {
    hierarchy = λ e. record {
      name = either (λ z. z.name ≡ e.name) (b e) (g e) (h e) (p.hierarchy e).name (q.hierarchy e).name;
      superclass = either (λ z. z.superclass ≡ e.superclass) (b e) (g e) (h e) (p.hierarchy e).superclass (q.hierarchy e).superclass;
    };
    others = λ k n e t. either (λ z. defining k n z ≡ defining k n e) (b e) (g e) (h e) (p.others k n e t) (q.others k n e t);
    other_kinds = λ k n e s. either (λ z. defining k n z ≡ defining k n e) (b e) (g e) (h e) (p.other_kinds k n e s) (q.other_kinds k n e s);
  }

  -- one change after another
  pub concerns-both : (g h : ClassOf Name → ClassOf Name) → ConcernsVariable g → ConcernsVariable h → ConcernsVariable (λ e. h (g e))
  concerns-both g h p q = record {
    hierarchy = λ e. record { name = (q.hierarchy (g e)).name ∙ (p.hierarchy e).name; superclass = (q.hierarchy (g e)).superclass ∙ (p.hierarchy e).superclass };
    others = λ k n e t. q.others k n (g e) t ∙ p.others k n e t;
    other_kinds = λ k n e s. q.other_kinds k n (g e) s ∙ p.other_kinds k n e s;
  }
