-- Which edits are written for one member, and the whole text.
use Rattle.std.proofs.Common.{◌≡◌, inl, inr, ℕ, zero, suc, ◌+◌, ◌≤◌, Bool, true, false, cond, not, List, [], ◌∷◌, ◌++◌, length, map, take, get_or, Option, None, Some, slice_get, refl, sym, ap, ◌∙◌, arith, append_assoc, length-append}
use Rattle.std.specs.Prelude.{◌==◌, if◌then◌else◌, find, codes, flat_map, is_some}
use Rattle.std.specs.Borrow.{Bor}
use Rattle.std.specs.Fmt.{decimal}
use Rattle.std.specs.Option.{option_map_or}
use Rattle.std.proofs.lemmas.Bool.{eq-eqb, eqb-true}
use Rattle.std.proofs.lemmas.List.Quantifiers.{position-Some}
use Rattle.rb_base.specs.Names.{text_eq, number_in}
use Rattle.text_model.specs.Literals.{quoted_text}
use Rattle.image_model.specs.Image.{ClassOf, ImageOf}
use Rattle.class_table.specs.declared.record.ClassRec.{ClassRec}
use Rattle.class_table.specs.View.{image_of}
use Rattle.file_model.specs.Filing.{Text}
use Rattle.file_model.specs.Written.{user_classes, run_of, chunk_text}
use Rattle.file_laws.proofs.Moves.{text_equal}
use Rattle.image_file.specs.Writable.{text_class}
use Rattle.change_model.specs.Differs.{is_among}
use Rattle.change_model.specs.Edits.{Edit, Settle, Change, Put, Replace, cleared, category_in, edits}
use Rattle.change_model.specs.Equal.{is_namesake}
use Rattle.change_model.specs.Text.{edit_text, change_text, change_source, placed_run_start}
use Rattle.change_laws.specs.Merged.{Has, AreApart}
use Rattle.change_laws.proofs.Orders.{at_has, filter_has}
use Rattle.change_laws.proofs.Placing.{all_has}
use Rattle.change_file.specs.declared.classes.Classes.{Classes}
use Rattle.change_file.specs.Partners.{is_listed}
use Rattle.change_file.specs.Texts.{edit_texts}
use Rattle.change_file.specs.Shown.{IsToldApart, AreClasses, class_keys}
use Rattle.change_file.proofs.Differing.{text_at}
use Rattle.change_file.proofs.EditTexts.{clearing_text, removals_text, removed_text, removals_last, take_last}
use Rattle.change_file.proofs.KeyWalks.{number_listed}
use Rattle.change_file.proofs.Pairs.{among_listed}

-- a class has a namesake where its name is in the table
pub among_named : (xs : List (ClassOf Text)) (c : ClassOf Text) → is_among is_namesake xs c ≡ is_listed (class_keys xs) c.name
among_named xs c = among_listed (λ (d : ClassOf Text). d.name) is_namesake (λ d e. refl) xs c

-- the one class of a name is found
find_one : (xs : List (ClassOf Text)) (c d : ClassOf Text) → AreApart is_namesake xs → Has d xs → is_namesake c d ≡ true → find (is_namesake c) xs ≡ Some d
find_one [] c d apart h e = absurd h
find_one (x ∷ xs) c d apart (inl h) e = ap (λ (b : Bool). cond b (Some x) (find (is_namesake c) xs)) (ap (is_namesake c) (sym h) ∙ e) ∙ ap Some (sym h)
find_one (x ∷ xs) c d apart (inr h) e = by (is_namesake c x) refl (find_one xs c d apart.1 h e)
  where
    by : (b : Bool) → is_namesake c x ≡ b → find (is_namesake c) xs ≡ Some d → cond b (Some x) (find (is_namesake c) xs) ≡ Some d
    by true f rest = absurd (all_has (λ (y : ClassOf Text). is_namesake x y ≡ true → ⊥) xs d apart.0 h (ap (λ (n : Text). text_eq n d.name) (sym (text_equal c.name x.name f)) ∙ e))
    by false f rest = rest

module _ (new : Classes) (is : AreClasses new) (apart : IsToldApart (image_of new.image.now)) (c : ClassOf Text) where
  -- the class of a user of that name
  later_class : (n : ℕ) (r : Bor ClassRec) → number_in new.names c.name ≡ Some n → slice_get new.recs.items n ≡ Some r → is_namesake c (text_class new.image.now r.now) ≡ true
  later_class n r e f =
      let ys = user_classes (image_of new.image.now) in
      let d = text_class new.image.now r.now in
      let at = position-Some (text_eq c.name) new.names n [] e in
      let name : slice_get (class_keys ys) n ≡ Some d.name = key_at ys n d (text_at new.image.now new.recs.items ys n r is.classes f) in
      let there : slice_get new.names n ≡ Some d.name = ap (λ (ns : List Text). slice_get ns n) is.names ∙ name in
      ap (text_eq c.name) (sym (got new.names n d.name there)) ∙ at.1
    where
      key_at : (xs : List (ClassOf Text)) (i : ℕ) (x : ClassOf Text) → slice_get xs i ≡ Some x → slice_get (class_keys xs) i ≡ Some x.name
      key_at [] i x g = absurd (cc)
      key_at (y ∷ ys) zero x g = let same : y ≡ x = cc in ap (λ (z : ClassOf Text). Some z.name) same
      key_at (y ∷ ys) (suc i) x g = key_at ys i x g

      got : (ts : List Text) (i : ℕ) (t : Text) → slice_get ts i ≡ Some t → get_or ts i [] ≡ t
      got [] i t g = absurd (cc)
      got (u ∷ us) zero t g = cc
      got (u ∷ us) (suc i) t g = got us i t g

  -- it is cleared
  pub is_cleared : (n : ℕ) (r : Bor ClassRec) → number_in new.names c.name ≡ Some n → slice_get new.recs.items n ≡ Some r
      → clearing_text (image_of new.image.now) c ≡ edit_texts (cleared (image_of new.image.now) c)
  is_cleared n r e f =
      ap (λ (b : Bool). if b then edit_texts (cleared (image_of new.image.now) c) else [])
      (among_named (user_classes (image_of new.image.now)) c ∙ ap (λ (ns : List Text). is_listed ns c.name) (sym is.names) ∙ sym (number_listed new.names c.name) ∙ ap (λ (o : Option ℕ). is_some o) e)

  -- with the category that it has
  pub later_category : (n : ℕ) (r : Bor ClassRec) → number_in new.names c.name ≡ Some n → slice_get new.recs.items n ≡ Some r → category_in (image_of new.image.now) c ≡ (r.now).category
  later_category n r e f =
      let j = image_of new.image.now in
      let d = text_class new.image.now r.now in
      let ys = user_classes j in
      let there = filter_has (λ (x : ClassOf Text). not x.kernel) j.classes d (at_has ys n d (text_at new.image.now new.recs.items ys n r is.classes f)) in
      ap (λ (o : Option (ClassOf Text)). option_map_or (λ (x : ClassOf Text). x.category) o c.category) (find_one j.classes c d apart.classes there.there (later_class n r e f))

  -- no class of the name
  pub not_cleared : number_in new.names c.name ≡ None → clearing_text (image_of new.image.now) c ≡ []
  not_cleared e =
      ap (λ (b : Bool). if b then edit_texts (cleared (image_of new.image.now) c) else [])
      (among_named (user_classes (image_of new.image.now)) c ∙ ap (λ (ns : List Text). is_listed ns c.name) (sym is.names) ∙ sym (number_listed new.names c.name) ∙ ap (λ (o : Option ℕ). is_some o) e)

  -- each name has its class
  pub has_later : (n : ℕ) → number_in new.names c.name ≡ Some n → slice_get new.recs.items n ≡ None → ⊥
  has_later n e f =
      let ys = user_classes (image_of new.image.now) in
      let at = position-Some (text_eq c.name) new.names n [] e in
      let few : length new.recs.items ≤ n = none_past new.recs.items n f in
      omega (arith, few, at.0, ap length is.names, many ys, ap length is.classes, all new.recs.items)
    where
      many : (xs : List (ClassOf Text)) → length (class_keys xs) ≡ length xs
      many [] = refl
      many (x ∷ xs) = omega (arith, many xs)

      all : (rs : List (Bor ClassRec)) → length (map (λ (r : Bor ClassRec). text_class new.image.now r.now) rs) ≡ length rs
      all [] = refl
      all (r ∷ rs) = omega (arith, all rs)

      none_past : (rs : List (Bor ClassRec)) (i : ℕ) → slice_get rs i ≡ None → length rs ≤ i
      none_past [] i g = omega arith
      none_past (r ∷ rs) zero g = absurd (cc)
      none_past (r ∷ rs) (suc i) g = omega (arith, none_past rs i g)

-- one more class from the end
pub removal_step : (goes : ClassOf Text → Bool) (xs : List (ClassOf Text)) (n : ℕ) (x : ClassOf Text) (out new whole : Text) → slice_get xs n ≡ Some x
    → out ++ removals_text goes (take (n + 1) xs) ≡ whole → new ≡ out ++ removed_text goes x → new ++ removals_text goes (take n xs) ≡ whole
removal_step goes xs n x out new whole e h m =
    ap (λ (t : Text). t ++ removals_text goes (take n xs)) m
    ∙ append_assoc out (removed_text goes x) (removals_text goes (take n xs))
    ∙ ap (λ (t : Text). out ++ t) (sym (ap (removals_text goes) (take_last xs n x e) ∙ removals_last goes (take n xs) x)) ∙ h

-- the text of an edit is not empty
some_behind : (a : Text) (b : ℕ) (t : Text) → length (a ++ b ∷ t) ≡ 0 → ⊥
some_behind a b t e = absurd (omega (arith, e, length-append a (b ∷ t)))

some_edit : (e : Edit) → length (edit_text e) ≡ 0 → ⊥
some_edit Settle h = some_behind (chunk_text (codes "Smalltalk settlePlaces")) 10 (10 ∷ []) h
some_edit (Change c) h = some_behind (chunk_text (change_source c)) 10 (10 ∷ []) h
some_edit (Put m k) h = some_behind (placed_run_start (run_of m) k ++ chunk_text m.source) 32 (33 ∷ 10 ∷ 10 ∷ []) h
some_edit (Replace k d) h = some_behind (chunk_text (codes "Smalltalk replaceDoIt: " ++ decimal k ++ codes " with: " ++ quoted_text d.source)) 10 (10 ∷ []) h

no_edits : (es : List Edit) → edit_texts es ≡ [] → length es ≡ 0
no_edits [] h = refl
no_edits (e ∷ es) h = absurd (some_edit e (omega (arith, ap length h, length-append (edit_text e) (edit_texts es))))

-- nothing is filed in where there are no edits
pub no_change : (i j : ImageOf Text) → edit_texts (edits i j) ≡ [] → change_text i j ≡ []
no_change i j h = ap (λ (b : Bool). if b then [] else 10 ∷ 33 ∷ 10 ∷ 10 ∷ flat_map edit_text (Settle ∷ edits i j)) (eq-eqb (length (edits i j)) 0 (no_edits (edits i j) h))

-- else what stands before them comes first
pub some_change : (i j : ImageOf Text) → (edit_texts (edits i j) ≡ [] → ⊥) → change_text i j ≡ 10 ∷ 33 ∷ 10 ∷ 10 ∷ edit_text Settle ++ edit_texts (edits i j)
some_change i j other = by (edits i j) other
  where
    by : (es : List Edit) → (edit_texts es ≡ [] → ⊥) → (if length es == 0 then [] else 10 ∷ 33 ∷ 10 ∷ 10 ∷ flat_map edit_text (Settle ∷ es)) ≡ 10 ∷ 33 ∷ 10 ∷ 10 ∷ edit_text Settle ++ edit_texts es
    by [] f = absurd (f refl)
    by (e ∷ es) f = ap (λ (b : Bool). if b then [] else 10 ∷ 33 ∷ 10 ∷ 10 ∷ flat_map edit_text (Settle ∷ e ∷ es)) (none (length (e ∷ es) == 0) refl)
      where
        none : (b : Bool) → (length (e ∷ es) == 0) ≡ b → (length (e ∷ es) == 0) ≡ false
        none true g = absurd (omega (arith, eqb-true (length (e ∷ es)) 0 g))
        none false g = g
