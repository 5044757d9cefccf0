-- An instance variable that goes up: code below a class that loses it finds it in the superclass, and no other code below has its name.
use Rattle.std.proofs.Common.{◌≡◌, List, [], ◌∷◌, Option, refl, sym, ap, ◌∙◌}
use Rattle.std.specs.Prelude.{Bool, true, false, cond, not, ◌&&◌, if◌then◌else◌, map, filter}
use Rattle.std.specs.List.{AllByRecursion, list_any}
use Rattle.std.proofs.lemmas.Bool.{false≢true}
use Rattle.rb_base.specs.Names.{text_eq}
use Rattle.image_model.specs.Image.{ClassOf, EntryOf, ImageOf}
use Rattle.image_model.specs.Chain.{chain}
use Rattle.image_model.specs.Means.{of_instance, variables}
use Rattle.image_model.proofs.Lists.{all-implies, all-both}
use Rattle.run_model.specs.Values.{Name}
use Rattle.run_model.specs.Runs.{doit_class}
use Rattle.run_model.proofs.Finite.{by_cases, any-map, and-true_right}
use Rattle.resolved_model.proofs.LookupLemmas.{everywhere}
use Rattle.mapped_model.specs.ChangedImages.{IsChangedImage}
use Rattle.mapped_model.proofs.NamesOfImagesHold.{named-found}
use Rattle.mapped_model.proofs.RenamedVariableLemmas.{at-all}
use Rattle.rename_model.specs.NamesThere.{is_named_in_method}
use Rattle.rename_model.specs.Conditions.{is_user_class, is_method_below}
use Rattle.command_model.specs.Hierarchy.{is_child}
use Rattle.command_model.specs.VariableConditions.{losers}
use Rattle.command_model.specs.VariableEffects.{with_last, without, class_pushed_up}
use Rattle.variable_laws.specs.KernelDoIts.{HasKernelDoIts}
use Rattle.rename_laws.proofs.Unnamed.{each-fails}
use Rattle.rename_laws.proofs.ChainFacts.{is_on, IsFound, chain-found, user-apart}
use Rattle.variable_laws.proofs.NamesPut.{put_last, put-others, put-there, left_out, left-others}
use Rattle.variable_laws.proofs.ClassesChanged.{with-own, defining, with_list, ConcernsVariable, concerns-list, concerns-none, concerns-either}
use Rattle.variable_laws.proofs.Alike.{shared_by, Alike}
use Rattle.variable_laws.proofs.Stays.{image-stays}
use Rattle.variable_laws.proofs.Links.{other-holds, linked, child-on}
use Rattle.variable_laws.proofs.Definers.{found-any, other-alike, apart-alike, alike-if}
use Rattle.variable_laws.proofs.AtNodes.{stays-by}
use Rattle.variable_laws.proofs.ClassesThere.{user-found, defines-there}

module _ (p x : Name) (i : ImageOf Name) where
  -- a class after
  abbrev raised : ClassOf Name → ClassOf Name
  raised e = class_pushed_up text_eq p x e

  concerns : ConcernsVariable of_instance x raised
  concerns =
      concerns-either of_instance x (λ e. text_eq p e.name) (with_list of_instance x (put_last x)) (λ e. if is_child text_eq p e then without text_eq of_instance x e else e) (concerns-list of_instance x (put_last x) (put-others x))
      (concerns-either of_instance x (is_child text_eq p) (with_list of_instance x (left_out x)) (λ e. e) (concerns-list of_instance x (left_out x) (left-others x)) (concerns-none of_instance x))

  abbrev AlikeHere : Option Name → Bool → Name → Type 0
  AlikeHere o meta n = Alike (λ k. k) i raised concerns.hierarchy o meta n

  -- a class that is neither the superclass nor a child of it stays
  class-apart : (e : ClassOf Name) → (text_eq p e.name ≡ false) × (is_child text_eq p e ≡ false) → raised e ≡ e
  class-apart e h = λ k. if h.0 k then with_last of_instance x e else if h.1 k then without text_eq of_instance x e else e

  -- the superclass has the variable
  class-gains : (e : ClassOf Name) → text_eq p e.name ≡ true → defining of_instance x (raised e) ≡ true
  class-gains e h =
      ap (λ b. defining of_instance x (if b then with_last of_instance x e else if is_child text_eq p e then without text_eq of_instance x e else e)) h
      ∙ ap (list_any (text_eq x)) (with-own of_instance (put_last x (variables of_instance e)) e)
      ∙ put-there x (variables of_instance e)

  -- a class that loses it and stands among found classes defines it there
  loser-defines : (cs : List (ClassOf Name)) → AllByRecursion (IsFound i.classes) cs → (es : List (ClassOf Name)) → AllByRecursion (IsFound i.classes) es →
      list_any (λ d. is_on d cs) (map (λ (e : ClassOf Name). e.name) (filter (λ (e : ClassOf Name). is_child text_eq p e && list_any (text_eq x) e.instance) es)) ≡ true → list_any (defining of_instance x) cs ≡ true
  loser-defines cs found [] there h = absurd (false≢true h)
  loser-defines cs found (e ∷ es) there h = by (is_child text_eq p e && list_any (text_eq x) e.instance) refl h (loser-defines cs found es there.1)
    where
      rest : List (ClassOf Name)
      rest = filter (λ (z : ClassOf Name). is_child text_eq p z && list_any (text_eq x) z.instance) es

      by : (b : Bool) → (is_child text_eq p e && list_any (text_eq x) e.instance) ≡ b → list_any (λ d. is_on d cs) (map (λ (z : ClassOf Name). z.name) (cond b (e ∷ rest) rest)) ≡ true →
          (list_any (λ d. is_on d cs) (map (λ (z : ClassOf Name). z.name) rest) ≡ true → list_any (defining of_instance x) cs ≡ true) → list_any (defining of_instance x) cs ≡ true
      by true q r later =
          by_cases (is_on e.name cs) (λ t. defines-there i of_instance e.name x e there.0 (and-true_right (is_child text_eq p e) (list_any (text_eq x) e.instance) q) cs found t)
          (λ t. later (other-holds (is_on e.name cs) (list_any (λ d. is_on d cs) (map (λ (z : ClassOf Name). z.name) rest)) t r))
      by false q r later = later r

  module _ (kernel : HasKernelDoIts i) (user : is_user_class text_eq i p ≡ true) where
    -- names are alike where the superclass does not stand on the chain
    off-alike : (o : Option Name) (meta : Bool) (n : Name) → is_on p (chain text_eq i.classes o) ≡ false → AlikeHere o meta n
    off-alike o meta n off =
        let above = user-found i p user in
        apart-alike of_instance x raised concerns (λ k. k) i o meta n
        (all-implies _ _ class-apart (chain text_eq i.classes o)
        (all-both (λ (e : ClassOf Name). text_eq p e.name ≡ false) (λ e. is_child text_eq p e ≡ false) (chain text_eq i.classes o) (each-fails (λ (e : ClassOf Name). text_eq p e.name) (chain text_eq i.classes o) off)
        (child-on i kernel.ordered p above.0 above.1 (chain text_eq i.classes o) (linked i kernel.ordered o) off)))
        (everywhere _ (λ e. refl) (chain text_eq i.classes o))

    -- the name is where the chain has the variable before and after
    on-alike : (o : Option Name) (meta : Bool) → is_on p (chain text_eq i.classes o) ≡ true → list_any (defining of_instance x) (chain text_eq i.classes o) ≡ true → AlikeHere o meta x
    on-alike o meta on had =
        alike-if of_instance x raised concerns (λ k. k) i o meta
        (λ t. found-any (defining of_instance x) (map raised (chain text_eq i.classes o))
        ∙ any-map (λ (e : ClassOf Name). text_eq p e.name) (defining of_instance x) raised class-gains (chain text_eq i.classes o) on
        ∙ sym had
        ∙ sym (found-any (defining of_instance x) (chain text_eq i.classes o)))
        (λ t d. refl) (λ t none. absurd (false≢true t))

    -- all classes are found by their names
    all-found : AllByRecursion (IsFound i.classes) i.classes
    all-found = at-all (IsFound i.classes) i.classes (λ j e at. named-found i kernel.ordered i.classes kernel.ordered.distinct j e at)

    -- the image after
    pub raised-changed : AllByRecursion (λ (m : EntryOf Name). (is_method_below text_eq i.classes p m && (not (list_any (λ d. is_method_below text_eq i.classes d m) (losers text_eq i p x)) && is_named_in_method text_eq x m)) ≡ false) i.methods →
        IsChangedImage (shared_by (λ k. k)) i (record i { classes = map raised i.classes })
    raised-changed unnamed =
        image-stays (λ k. k) i raised concerns.hierarchy
        (all-implies _ _
        (λ m h. stays-by (λ k. k) i raised concerns.hierarchy x (other-alike of_instance x raised concerns (λ k. k) i (λ d n t. refl)) m
        (λ path u q e outside named. by_cases (is_method_below text_eq i.classes p m)
        (λ on. by_cases (list_any (λ d. is_method_below text_eq i.classes d m) (losers text_eq i p x))
        (λ t. on-alike m.class m.meta on (loser-defines (chain text_eq i.classes m.class) (chain-found i.classes m.class) i.classes all-found t))
        (λ t. absurd (false≢true (sym h ∙ (λ k. on k && (not (t k) && named k))))))
        (λ off. off-alike m.class m.meta x off)))
        i.methods unnamed)
        (λ n. off-alike (doit_class i) false n (user-apart i p user (chain text_eq i.classes (doit_class i)) (chain-found i.classes (doit_class i)) kernel.doits))
