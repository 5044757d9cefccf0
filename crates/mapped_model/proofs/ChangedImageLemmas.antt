-- Images with changed names, once their names are resolved.
use Rattle.std.proofs.Common.{◌≡◌, ℕ, List, [], ◌∷◌, Option, Some, None, refl, sym, ap, ◌∙◌}
use Rattle.std.specs.Prelude.{map}
use Rattle.std.specs.List.{AllZip}
use Rattle.scope_model.specs.Scope.{method_scope, doit_scope}
use Rattle.image_model.specs.Image.{ClassOf, EntryOf, DoItOf, ImageOf}
use Rattle.run_model.specs.Values.{Name}
use Rattle.run_model.specs.Runs.{doit_class}
use Rattle.resolved_model.specs.Resolving.{meant_in, meant_in_doit, resolved_scope, resolved_method, resolved_doit}
use Rattle.resolved_model.specs.ResolvedImages.{by_code, plain_class, doing_of, resolved_entry, resolved_image, class_of_doits}
use Rattle.resolved_model.proofs.LookupLemmas.{doits-class}
use Rattle.mapped_model.specs.NameMaps.{NameMaps}
use Rattle.mapped_model.specs.MappedImages.{class_or_none, mapped_code, mapped_doing, mapped_method, mapped_class, mapped_image}
use Rattle.mapped_model.specs.ChangedImages.{IsChangedClass, IsChangedMethod, IsChangedDoIt, IsChangedImage}
use Rattle.mapped_model.proofs.ChangedLemmas.{changed-scope}

-- lists whose items come to the same, place by place
zip-map : {A B C : Type 0} (R : A → B → Type 0) (g : A → C) (h : B → C) → ((a : A) (b : B) → R a b → h b ≡ g a) → (xs : List A) (ys : List B) → AllZip R xs ys → map h ys ≡ map g xs
zip-map R g h e [] [] z = refl
zip-map R g h e [] (y ∷ ys) z = absurd z
zip-map R g h e (x ∷ xs) [] z = absurd z
zip-map R g h e (x ∷ xs) (y ∷ ys) z = λ i. e x y z.0 i ∷ zip-map R g h e xs ys z.1 i

-- the items of a list that is mapped twice
map-twice : {A B C : Type 0} (g : A → B) (h : B → C) (xs : List A) → map h (map g xs) ≡ map (λ x. h (g x)) xs
map-twice g h [] = refl
map-twice g h (x ∷ xs) = ap (λ l. h (g x) ∷ l) (map-twice g h xs)

module _ (f : NameMaps) (i j : ImageOf Name) where
  -- a class
  class-changed : (c d : ClassOf Name) → IsChangedClass f c d → plain_class d ≡ mapped_class f (plain_class c)
  class-changed c d h = λ k. record (plain_class c) { name = h.name k; superclass = h.superclass k }

  -- code without a primitive
  code-changed : (m n : EntryOf Name) → IsChangedMethod f i j m n → m.tree.primitive ≡ None → resolved_method j n ≡ mapped_code f (class_or_none m.class) (resolved_method i m)
  unfolding resolved_method
  code-changed m n h e = ap (resolved_scope (meant_in j n)) (h.scope e) ∙ changed-scope f (class_or_none m.class) (method_scope m.tree) h.names (meant_in i m) (meant_in j n) (h.meanings e)

  -- what a method does, by its primitive
  doing-changed : (m n : EntryOf Name) → IsChangedMethod f i j m n → (p : Option ℕ) → m.tree.primitive ≡ p → doing_of j n p ≡ mapped_doing f (class_or_none m.class) (doing_of i m p)
  doing-changed m n h (Some k) e = refl
  doing-changed m n h None e = ap by_code (code-changed m n h e)

  -- a method
  method-changed : (m n : EntryOf Name) → IsChangedMethod f i j m n → resolved_entry j n ≡ mapped_method f (resolved_entry i m)
  method-changed m n h =
      let doing : doing_of j n n.tree.primitive ≡ mapped_doing f (class_or_none m.class) (doing_of i m m.tree.primitive) = ap (doing_of j n) h.primitive ∙ doing-changed m n h m.tree.primitive refl in
      λ k. record { class = h.class k; meta = h.meta k; selector = h.selector k; doing = doing k }

  -- a do-it
  doit-changed : (d e : DoItOf Name) → IsChangedDoIt f i j d e → resolved_doit j e ≡ mapped_code f (class_or_none (class_of_doits (resolved_image i))) (resolved_doit i d)
  unfolding resolved_doit
  doit-changed d e h =
      ap (resolved_scope (meant_in_doit j e)) h.scope ∙ changed-scope f (class_or_none (doit_class i)) (doit_scope d.body) h.names (meant_in_doit i d) (meant_in_doit j e) h.meanings
      ∙ ap (λ o. mapped_code f (class_or_none o) (resolved_scope (meant_in_doit i d) (doit_scope d.body))) (sym (doits-class i))

  -- an image
  pub image-changed : IsChangedImage f i j → resolved_image j ≡ mapped_image f (resolved_image i)
  image-changed h =
      let classes : map plain_class j.classes ≡ map (mapped_class f) (map plain_class i.classes) =
      zip-map (IsChangedClass f) (λ c. mapped_class f (plain_class c)) plain_class class-changed i.classes j.classes h.classes ∙ sym (map-twice plain_class (mapped_class f) i.classes) in
      let methods : map (resolved_entry j) j.methods ≡ map (mapped_method f) (map (resolved_entry i) i.methods) =
      zip-map (IsChangedMethod f i j) (λ m. mapped_method f (resolved_entry i m)) (resolved_entry j) method-changed i.methods j.methods h.methods ∙ sym (map-twice (resolved_entry i) (mapped_method f) i.methods) in
      let doits : map (resolved_doit j) j.doits ≡ map (mapped_code f (class_or_none (class_of_doits (resolved_image i)))) (map (resolved_doit i) i.doits) =
      zip-map (IsChangedDoIt f i j) (λ d. mapped_code f (class_or_none (class_of_doits (resolved_image i))) (resolved_doit i d)) (resolved_doit j) doit-changed i.doits j.doits h.doits
      ∙ sym (map-twice (resolved_doit i) (mapped_code f (class_or_none (class_of_doits (resolved_image i)))) i.doits) in
      λ k. record { classes = classes k; methods = methods k; doits = doits k }
