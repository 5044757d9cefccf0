-- What a definition makes of classes of which each stands behind its superclass.
use Rattle.std.proofs.Common.{◌≡◌, ◌⊎◌, inl, inr, Bool, true, false, not, cond, List, [], ◌∷◌, ◌++◌, filter, find, Option, Some, None, refl, sym, ap, subst, ◌∙◌, true≢false, append_assoc, append-nil}
use Rattle.std.specs.Prelude.{◌||◌, if◌then◌else◌, is_some}
use Rattle.std.specs.List.{AllByRecursion}
use Rattle.std.specs.Option.{option_map_or}
use Rattle.std.proofs.lemmas.List.Sorted.{list_any-IsPermutation}
use Rattle.image_model.specs.Image.{ClassOf}
use Rattle.image_model.specs.Valid.{HasNoRepeat, class_names, SuperclassesStandBefore}
use Rattle.file_model.specs.Changes.{DefinitionOf}
use Rattle.file_model.specs.Hierarchy.{has_class, stands_in, has_subclass, can_follow, settled}
use Rattle.file_model.specs.Refusals.{lacks_superclass, makes_cycle}
use Rattle.file_model.specs.Applied.{new_class, class_again, changed_class, with_definition, defined}
use Rattle.file_laws.specs.Settling.{IsTakenInTurn, staying, moving, AreInOrder, waits, passed, comes_first, put_behind}
use Rattle.file_laws.proofs.Settled.{moved, settled_in_turn, turn_of}
use Rattle.file_laws.proofs.Moves.{Inherits, Redefines, waits_for, stands_either, stands_left, stands_right, stands_alone, stands_moving, none_stands, its_name, turn_front, turn_back, turn_both}
use Rattle.file_laws.proofs.Redefined.{IsCutAt, IsAgain, is_below, cut_at, in_order, once_behind, again_follows, again_before, again_behind, again_at, again_is, again_far, again_settled}
use Rattle.file_laws.proofs.Repeats.{no_repeat_moved, no_repeat_last, no_repeat_filter, absent, names_changed, none_pass, turn_without}

-- a choice between equals
either_way : {X : Type 0} (b : Bool) (x : X) → (if b then x else x) ≡ x
either_way true x = refl
either_way false x = refl

-- of one more item
All-last : {X : Type 0} (P : X → Type 0) (xs : List X) (x : X) → AllByRecursion P xs → P x → AllByRecursion P (xs ++ x ∷ [])
All-last P [] x all h = (h, tt)
All-last P (y ∷ ys) x all h = (all.0, All-last P ys x all.1 h)

-- a fact of each item that passes
All-passing : {X : Type 0} (q : X → Bool) (xs : List X) → AllByRecursion (λ x. q x ≡ true) (filter q xs)
All-passing q [] = tt
All-passing q (x ∷ xs) = by (q x) refl (All-passing q xs)
  where
    by : (b : Bool) → q x ≡ b → AllByRecursion (λ y. q y ≡ true) (filter q xs) → AllByRecursion (λ y. q y ≡ true) (cond b (x ∷ filter q xs) (filter q xs))
    by true e rest = (e, rest)
    by false e rest = rest

-- What a definition leaves: the classes are in order, and none is lost.
pub record Leaves {N : Type 0} (is_same : N → N → Bool) (classes new : List (ClassOf N)) : Type 0 where
  pub order : AreInOrder new
  pub kept : (n : N) → has_class is_same classes n ≡ true → has_class is_same new n ≡ true

-- over names that a test tells apart
module _ {N : Type 0} (is_same : N → N → Bool) (reflexive : (n : N) → is_same n n ≡ true) (equal : (s t : N) → is_same s t ≡ true → s ≡ t) where
  -- a class of another name does not wait where none waits
  free_alone : (n : N) (c : ClassOf N) → is_same n c.name ≡ false → waits is_same n [] c ≡ false
  free_alone n c e = ap (λ b. b || option_map_or (λ s. stands_in is_same s []) c.superclass false) e ∙ by c.superclass
    where
      by : (o : Option N) → option_map_or (λ s. stands_in is_same s []) o false ≡ false
      by None = refl
      by (Some s) = refl

  -- classes in front of those of a name stay
  passed_free : (n p : N) (front rest : List (ClassOf N)) → stands_in is_same n front ≡ false → passed is_same n p [] (front ++ rest) ≡ front ++ passed is_same n p [] rest
  passed_free n p [] rest h = refl
  passed_free n p (x ∷ xs) rest h = by (is_same n x.name) refl h (passed_free n p xs rest)
    where
      by : (b : Bool) → is_same n x.name ≡ b → (b || stands_in is_same n xs) ≡ false → (stands_in is_same n xs ≡ false → passed is_same n p [] (xs ++ rest) ≡ xs ++ passed is_same n p [] rest)
          → passed is_same n p [] (x ∷ (xs ++ rest)) ≡ x ∷ (xs ++ passed is_same n p [] rest)
      by true e k next = absurd (true≢false k)
      by false e k next =
          ap (λ (b : Bool). if b then passed is_same n p (x ∷ []) (xs ++ rest) else x ∷ (if is_same p x.name then passed is_same n p [] (xs ++ rest) else passed is_same n p [] (xs ++ rest))) (free_alone n x e)
          ∙ ap (λ ys. x ∷ ys) (either_way (is_same p x.name) (passed is_same n p [] (xs ++ rest)) ∙ next k)

  -- what stands among classes that move
  among_moving : (m : N → Bool) (waiting : List (ClassOf N)) (s : N) → AllByRecursion (λ (y : ClassOf N). m y.name ≡ true) waiting → stands_in is_same s waiting ≡ true → m s ≡ true
  among_moving m [] s all h = absurd (true≢false (sym h))
  among_moving m (y ∷ ys) s all h = by (is_same s y.name) refl h (λ k. among_moving m ys s all.1 k)
    where
      by : (b : Bool) → is_same s y.name ≡ b → (b || stands_in is_same s ys) ≡ true → (stands_in is_same s ys ≡ true → m s ≡ true) → m s ≡ true
      by true e k rest = ap m (equal s y.name e) ∙ all.0
      by false e k rest = rest k

  -- a class waits exactly where it moves, if those wait that move among the names that were seen
  waits_where : (m : N → Bool) (n : N) (seen waiting : List (ClassOf N)) (x : ClassOf N) → is_same n x.name ≡ false → can_follow is_same seen x ≡ true → Inherits m x
      → ((s : N) → stands_in is_same s seen ≡ true → m s ≡ true → stands_in is_same s waiting ≡ true) → AllByRecursion (λ (y : ClassOf N). m y.name ≡ true) waiting → waits is_same n waiting x ≡ m x.name
  waits_where m n seen waiting x other follows inh cov all = ap (λ b. b || option_map_or (λ s. stands_in is_same s waiting) x.superclass false) other ∙ by x.superclass refl follows
    where
      at : (s : N) (b : Bool) → m s ≡ b → (a : Bool) → stands_in is_same s waiting ≡ a → stands_in is_same s seen ≡ true → a ≡ b
      at s true e a w h = sym w ∙ cov s h e
      at s false e true w h = absurd (true≢false (sym (among_moving m waiting s all w) ∙ e))
      at s false e false w h = refl

      by : (o : Option N) → x.superclass ≡ o → option_map_or (λ t. stands_in is_same t seen) o true ≡ true → option_map_or (λ s. stands_in is_same s waiting) o false ≡ m x.name
      by None q h = sym (inh.root q)
      by (Some s) q h = at s (m s) refl (stands_in is_same s waiting) refl h ∙ sym (inh.below s q)

  -- of classes between the two those that move wait, and the others stay
  passed_middle : (m : N → Bool) (n p : N) (seen waiting rest more : List (ClassOf N)) → IsTakenInTurn is_same seen rest → AllByRecursion (Inherits m) rest
      → ((s : N) → stands_in is_same s seen ≡ true → m s ≡ true → stands_in is_same s waiting ≡ true) → AllByRecursion (λ (y : ClassOf N). m y.name ≡ true) waiting
      → stands_in is_same n rest ≡ false → stands_in is_same p rest ≡ false
      → passed is_same n p waiting (rest ++ more) ≡ staying (λ x. m x.name) rest ++ passed is_same n p (waiting ++ moving (λ x. m x.name) rest) more
  passed_middle m n p seen waiting [] more turn inh cov all a b = ap (λ ys. passed is_same n p ys more) (sym (append-nil waiting))
  passed_middle m n p seen waiting (x ∷ xs) more turn inh cov all a b =
      by (m x.name) refl (is_same n x.name) refl a (is_same p x.name) refl b (λ w c i f g. passed_middle m n p (seen ++ x ∷ []) w xs more turn.1 inh.1 c i f g)
    where
      Rest : List (ClassOf N) → Type 0
      Rest w =
          ((s : N) → stands_in is_same s (seen ++ x ∷ []) ≡ true → m s ≡ true → stands_in is_same s w ≡ true) → AllByRecursion (λ (y : ClassOf N). m y.name ≡ true) w
          → stands_in is_same n xs ≡ false → stands_in is_same p xs ≡ false
          → passed is_same n p w (xs ++ more) ≡ staying (λ y. m y.name) xs ++ passed is_same n p (w ++ moving (λ y. m y.name) xs) more

      longer : m x.name ≡ true → (s : N) → m s ≡ true → (stands_in is_same s seen ≡ true) ⊎ (stands_in is_same s (x ∷ []) ≡ true) → stands_in is_same s (waiting ++ x ∷ []) ≡ true
      longer e s f (inl k) = stands_left is_same reflexive equal s waiting (x ∷ []) (cov s k f)
      longer e s f (inr k) = stands_right is_same reflexive equal s waiting (x ∷ []) k

      as_before : m x.name ≡ false → (s : N) → m s ≡ true → (stands_in is_same s seen ≡ true) ⊎ (stands_in is_same s (x ∷ []) ≡ true) → stands_in is_same s waiting ≡ true
      as_before e s f (inl k) = cov s k f
      as_before e s f (inr k) = absurd (true≢false (sym f ∙ ap m (stands_alone is_same reflexive equal s x k) ∙ e))

      decides : is_same n x.name ≡ false → waits is_same n waiting x ≡ m x.name
      decides other = waits_where m n seen waiting x other turn.0 inh.0 cov all

      by : (t : Bool) → m x.name ≡ t → (u : Bool) → is_same n x.name ≡ u → (u || stands_in is_same n xs) ≡ false → (v : Bool) → is_same p x.name ≡ v → (v || stands_in is_same p xs) ≡ false
          → ((w : List (ClassOf N)) → Rest w)
          → passed is_same n p waiting (x ∷ (xs ++ more)) ≡ cond (not t) (x ∷ staying (λ y. m y.name) xs) (staying (λ y. m y.name) xs) ++ passed is_same n p (waiting ++ cond t (x ∷ moving (λ y. m y.name) xs) (moving (λ y. m y.name) xs)) more
      by t e true f k v g l next = absurd (true≢false k)
      by t e false f k true g l next = absurd (true≢false l)
      by true e false f k false g l next =
          ap (λ (b : Bool). if b then passed is_same n p (waiting ++ x ∷ []) (xs ++ more) else x ∷ (if is_same p x.name then waiting ++ passed is_same n p [] (xs ++ more) else passed is_same n p waiting (xs ++ more))) (decides f ∙ e)
          ∙ next (waiting ++ x ∷ []) (λ s h w. longer e s w (stands_either is_same reflexive equal s seen (x ∷ []) h)) (All-last (λ (y : ClassOf N). m y.name ≡ true) waiting x all e) k l
          ∙ ap (λ ys. staying (λ y. m y.name) xs ++ passed is_same n p ys more) (append_assoc waiting (x ∷ []) (moving (λ y. m y.name) xs))
      by false e false f k false g l next =
          ap (λ (b : Bool). if b then passed is_same n p (waiting ++ x ∷ []) (xs ++ more) else x ∷ (if is_same p x.name then waiting ++ passed is_same n p [] (xs ++ more) else passed is_same n p waiting (xs ++ more))) (decides f ∙ e)
          ∙ ap (λ (b : Bool). x ∷ (if b then waiting ++ passed is_same n p [] (xs ++ more) else passed is_same n p waiting (xs ++ more))) g
          ∙ ap (λ ys. x ∷ ys) (next waiting (λ s h w. as_before e s w (stands_either is_same reflexive equal s seen (x ∷ []) h)) all k l)

  -- one pass moves a class behind the one that it waits for
  pub passed_moves : (m : N → Bool) (front : List (ClassOf N)) (c new : ClassOf N) (middle : List (ClassOf N)) (above : ClassOf N) (back : List (ClassOf N)) → Redefines is_same m front c new middle above back
      → stands_in is_same c.name front ≡ false → stands_in is_same c.name (middle ++ (above ∷ back)) ≡ false
      → passed is_same c.name above.name [] (front ++ (new ∷ (middle ++ (above ∷ back)))) ≡ front ++ (staying (λ x. m x.name) middle ++ (above ∷ new ∷ (moving (λ x. m x.name) middle ++ back)))
  passed_moves m front c new middle above back r before behind =
      passed_free c.name above.name front (new ∷ (middle ++ (above ∷ back))) before
      ∙ ap (λ ys. front ++ ys)
      (ap (λ (b : Bool). if b then passed is_same c.name above.name (new ∷ []) (middle ++ (above ∷ back)) else new ∷ (if is_same above.name new.name then passed is_same c.name above.name [] (middle ++ (above ∷ back)) else passed is_same c.name above.name [] (middle ++ (above ∷ back)))) new_waits
      ∙ passed_middle m c.name above.name (front ++ c ∷ []) (new ∷ []) middle (above ∷ back) middle_turn r.middle_inherits covers (new_moves, tt) (no_first middle (above ∷ back) behind) r.not_in_middle
      ∙ ap (λ ys. staying (λ x. m x.name) middle ++ ys) above_put)
    where
      no_first : (xs ys : List (ClassOf N)) → stands_in is_same c.name (xs ++ ys) ≡ false → stands_in is_same c.name xs ≡ false
      no_first [] ys h = refl
      no_first (x ∷ xs) ys h = by (is_same c.name x.name) h (no_first xs ys)
        where
          by : (b : Bool) → (b || stands_in is_same c.name (xs ++ ys)) ≡ false → (stands_in is_same c.name (xs ++ ys) ≡ false → stands_in is_same c.name xs ≡ false) → (b || stands_in is_same c.name xs) ≡ false
          by true k next = k
          by false k next = next k

      no_last : (xs ys : List (ClassOf N)) → stands_in is_same c.name (xs ++ ys) ≡ false → stands_in is_same c.name ys ≡ false
      no_last [] ys h = h
      no_last (x ∷ xs) ys h = by (is_same c.name x.name) h (no_last xs ys)
        where
          by : (b : Bool) → (b || stands_in is_same c.name (xs ++ ys)) ≡ false → (stands_in is_same c.name (xs ++ ys) ≡ false → stands_in is_same c.name ys ≡ false) → stands_in is_same c.name ys ≡ false
          by true k next = absurd (true≢false k)
          by false k next = next k

      either_false : (a b : Bool) → (a || b) ≡ false → (a ≡ false) × (b ≡ false)
      either_false true b h = absurd (true≢false h)
      either_false false b h = (refl, h)

      behind_above : (is_same c.name above.name ≡ false) × (stands_in is_same c.name back ≡ false)
      behind_above = either_false (is_same c.name above.name) (stands_in is_same c.name back) (no_last middle (above ∷ back) behind)

      new_waits : waits is_same c.name [] new ≡ true
      new_waits = ap (λ (b : Bool). b || option_map_or (λ s. stands_in is_same s []) new.superclass false) (ap (is_same c.name) r.same_name ∙ reflexive c.name)

      new_moves : m new.name ≡ true
      new_moves = ap m r.same_name ∙ r.begins

      from_c : IsTakenInTurn is_same front (c ∷ (middle ++ (above ∷ back)))
      from_c = turn_back is_same reflexive equal [] front (c ∷ (middle ++ (above ∷ back))) r.in_order

      middle_turn : IsTakenInTurn is_same (front ++ c ∷ []) middle
      middle_turn = turn_front is_same reflexive equal (front ++ c ∷ []) middle (above ∷ back) from_c.1

      above_turn : IsTakenInTurn is_same ((front ++ c ∷ []) ++ middle) (above ∷ back)
      above_turn = turn_back is_same reflexive equal (front ++ c ∷ []) middle (above ∷ back) from_c.1

      at_c : (s : N) → m s ≡ true → (waiting : List (ClassOf N)) → stands_in is_same new.name waiting ≡ true → (stands_in is_same s front ≡ true) ⊎ (stands_in is_same s (c ∷ []) ≡ true) → stands_in is_same s waiting ≡ true
      at_c s f waiting there (inl k) = absurd (true≢false (sym k ∙ none_stands is_same reflexive equal m front s r.front_stays f))
      at_c s f waiting there (inr k) =
          let named : new.name ≡ s = r.same_name ∙ sym (stands_alone is_same reflexive equal s c k) in
          subst (λ (t : N). stands_in is_same t waiting ≡ true) named there

      covers : (s : N) → stands_in is_same s (front ++ c ∷ []) ≡ true → m s ≡ true → stands_in is_same s (new ∷ []) ≡ true
      covers s h f = at_c s f (new ∷ []) (its_name is_same reflexive equal new []) (stands_either is_same reflexive equal s front (c ∷ []) h)

      covers_all : (s : N) → stands_in is_same s ((front ++ c ∷ []) ++ middle) ≡ true → m s ≡ true → stands_in is_same s (new ∷ moving (λ x. m x.name) middle) ≡ true
      covers_all s h f = first (stands_either is_same reflexive equal s (front ++ c ∷ []) middle h)
        where
          first : (stands_in is_same s (front ++ c ∷ []) ≡ true) ⊎ (stands_in is_same s middle ≡ true) → stands_in is_same s (new ∷ moving (λ x. m x.name) middle) ≡ true
          first (inl k) = at_c s f (new ∷ moving (λ x. m x.name) middle) (its_name is_same reflexive equal new (moving (λ x. m x.name) middle)) (stands_either is_same reflexive equal s front (c ∷ []) k)
          first (inr k) = stands_right is_same reflexive equal s (new ∷ []) (moving (λ x. m x.name) middle) (stands_moving is_same reflexive equal m middle s k f)

      above_free : waits is_same c.name (new ∷ moving (λ x. m x.name) middle) above ≡ false
      above_free =
          waits_where m c.name ((front ++ c ∷ []) ++ middle) (new ∷ moving (λ x. m x.name) middle) above behind_above.0 above_turn.0 r.above_inherits covers_all (new_moves, All-passing (λ (x : ClassOf N). m x.name) middle)
          ∙ r.above_stays

      back_stays : passed is_same c.name above.name [] back ≡ back
      back_stays = ap (passed is_same c.name above.name []) (sym (append-nil back)) ∙ passed_free c.name above.name back [] behind_above.1 ∙ append-nil back

      above_put : passed is_same c.name above.name (new ∷ moving (λ x. m x.name) middle) (above ∷ back) ≡ above ∷ new ∷ (moving (λ x. m x.name) middle ++ back)
      above_put =
          ap (λ (b : Bool). if b then passed is_same c.name above.name ((new ∷ moving (λ x. m x.name) middle) ++ above ∷ []) back
          else above ∷ (if is_same above.name above.name then (new ∷ moving (λ x. m x.name) middle) ++ passed is_same c.name above.name [] back else passed is_same c.name above.name (new ∷ moving (λ x. m x.name) middle) back)) above_free
          ∙ ap (λ (b : Bool). above ∷ (if b then (new ∷ moving (λ x. m x.name) middle) ++ passed is_same c.name above.name [] back else passed is_same c.name above.name (new ∷ moving (λ x. m x.name) middle) back)) (reflexive above.name)
          ∙ ap (λ ys. above ∷ new ∷ (moving (λ x. m x.name) middle ++ ys)) back_stays

  -- whether a class comes before another is whether it stands in front of it
  first_cut : (p n : N) (front : List (ClassOf N)) (c : ClassOf N) (rest : List (ClassOf N)) → stands_in is_same n front ≡ false → n ≡ c.name → comes_first is_same p n (front ++ c ∷ rest) ≡ stands_in is_same p front
  first_cut p n [] c rest a e = ap (λ (b : Bool). if b then false else is_same p c.name || comes_first is_same p n rest) (ap (is_same n) (sym e) ∙ reflexive n)
  first_cut p n (x ∷ xs) c rest a e = by (is_same n x.name) refl a (λ k. first_cut p n xs c rest k e)
    where
      by : (b : Bool) → is_same n x.name ≡ b → (b || stands_in is_same n xs) ≡ false → (stands_in is_same n xs ≡ false → comes_first is_same p n (xs ++ c ∷ rest) ≡ stands_in is_same p xs)
          → comes_first is_same p n (x ∷ (xs ++ c ∷ rest)) ≡ (is_same p x.name || stands_in is_same p xs)
      by true q k next = absurd (true≢false k)
      by false q k next =
          ap (λ (b : Bool). if b then false else is_same p x.name || comes_first is_same p n (xs ++ c ∷ rest)) q
          ∙ ap (λ b. is_same p x.name || b) (next k)

  -- a class that is defined again
  module _ (classes : List (ClassOf N)) (d : DefinitionOf N) (kernel : Bool) (distinct : HasNoRepeat (class_names classes)) (there : has_class is_same classes d.name ≡ true) where
    cut : IsCutAt is_same classes d.name
    cut = cut_at is_same reflexive equal classes d.name there

    placed : with_definition is_same kernel d classes ≡ cut.front ++ class_again d cut.class ∷ cut.rest
    placed = again_at is_same reflexive equal classes d kernel distinct there cut

    first_there : (p : N) → comes_first is_same p d.name (with_definition is_same kernel d classes) ≡ stands_in is_same p cut.front
    first_there p = ap (comes_first is_same p d.name) placed ∙ first_cut p d.name cut.front (class_again d cut.class) cut.rest cut.not_before cut.named

    -- where it can be taken at its place nothing moves
    stays_placed : IsTakenInTurn is_same [] (cut.front ++ class_again d cut.class ∷ cut.rest) → defined is_same kernel d classes ≡ with_definition is_same kernel d classes
    stays_placed turn = again_is is_same reflexive equal classes d kernel distinct there cut ∙ settled_in_turn is_same reflexive equal (cut.front ++ class_again d cut.class ∷ cut.rest) turn ∙ sym placed

    -- with no superclass
    root_turn : SuperclassesStandBefore classes → d.superclass ≡ None → IsTakenInTurn is_same [] (cut.front ++ class_again d cut.class ∷ cut.rest)
    root_turn before e = again_follows is_same reflexive equal classes d before cut (ap (λ o. option_map_or (λ n. stands_in is_same n cut.front) o true) e)

    pub root_stays : SuperclassesStandBefore classes → d.superclass ≡ None → defined is_same kernel d classes ≡ with_definition is_same kernel d classes
    root_stays before e = stays_placed (root_turn before e)

    pub root_first : SuperclassesStandBefore classes → d.superclass ≡ None → SuperclassesStandBefore (defined is_same kernel d classes)
    root_first before e = subst SuperclassesStandBefore (sym (root_stays before e ∙ placed)) (in_order is_same reflexive equal (cut.front ++ class_again d cut.class ∷ cut.rest) (root_turn before e))

    -- under a superclass that stands before it
    pub early_stays : (p : N) → IsAgain is_same classes d p → comes_first is_same p d.name (with_definition is_same kernel d classes) ≡ true → defined is_same kernel d classes ≡ with_definition is_same kernel d classes
    early_stays p a first = stays_placed (again_before is_same reflexive equal classes d p a cut (sym (first_there p) ∙ first))

    -- under one that stands behind it
    pub late_passes : (p : N) → IsAgain is_same classes d p → comes_first is_same p d.name (with_definition is_same kernel d classes) ≡ false
        → defined is_same kernel d classes ≡ passed is_same d.name p [] (with_definition is_same kernel d classes)
    late_passes p a first = by (again_far is_same reflexive equal classes d p a cut late)
      where
        late : stands_in is_same p cut.front ≡ false
        late = sym (first_there p) ∙ first

        by : IsCutAt is_same cut.rest p → defined is_same kernel d classes ≡ passed is_same d.name p [] (with_definition is_same kernel d classes)
        by far =
            let r = again_behind is_same reflexive equal classes d p a cut late far in
            let w = waits_for is_same reflexive equal (is_below is_same classes d.name) cut.front cut.class (class_again d cut.class) far.front far.class far.rest r in
            let split : cut.front ++ class_again d cut.class ∷ cut.rest ≡ cut.front ++ (class_again d cut.class ∷ (far.front ++ (far.class ∷ far.rest))) = ap (λ ys. cut.front ++ class_again d cut.class ∷ ys) far.whole in
            again_is is_same reflexive equal classes d kernel distinct there cut
            ∙ ap (settled is_same) split
            ∙ moved is_same reflexive equal (λ x. is_below is_same classes d.name x.name) cut.front (class_again d cut.class) far.front far.class far.rest w
            ∙ sym (passed_moves (is_below is_same classes d.name) cut.front cut.class (class_again d cut.class) far.front far.class far.rest r
            (ap (λ s. stands_in is_same s cut.front) (sym cut.named) ∙ cut.not_before)
            (ap (λ s. stands_in is_same s (far.front ++ (far.class ∷ far.rest))) (sym cut.named) ∙ ap (stands_in is_same d.name) (sym far.whole) ∙ once_behind is_same reflexive equal classes d.name distinct cut))
            ∙ ap (passed is_same cut.class.name far.class.name []) (sym (placed ∙ split))
            ∙ (λ i. passed is_same (sym cut.named i) (sym far.named i) [] (with_definition is_same kernel d classes))

  -- a name that no class has
  not_there : (b : Bool) → not b ≡ false → b ≡ true
  not_there true h = refl
  not_there false h = absurd (true≢false h)

  -- what is known of a definition that is not refused
  pub again_of : (classes : List (ClassOf N)) (d : DefinitionOf N) (p : N) → AreInOrder classes → has_class is_same classes d.name ≡ true → d.superclass ≡ Some p → lacks_superclass is_same classes d ≡ false → makes_cycle is_same classes d ≡ false
      → IsAgain is_same classes d p
  again_of classes d p o there under lacks cycle = record {
    before = o.before;
    distinct = o.distinct;
    there = there;
    under = under;
    above_there = not_there (has_class is_same classes p) (ap (λ s. option_map_or (λ q. not (has_class is_same classes q)) s false) (sym under) ∙ lacks);
    no_cycle = cycle;
  }

  -- a definition that is not refused of a class that is there puts it behind its superclass
  pub defined_puts : (classes : List (ClassOf N)) (d : DefinitionOf N) (kernel : Bool) → AreInOrder classes → has_class is_same classes d.name ≡ true → lacks_superclass is_same classes d ≡ false → makes_cycle is_same classes d ≡ false
      → defined is_same kernel d classes ≡ put_behind is_same d.name d.superclass (with_definition is_same kernel d classes)
  defined_puts classes d kernel o there lacks cycle = by d.superclass refl
    where
      at : (p : N) → d.superclass ≡ Some p → (b : Bool) → comes_first is_same p d.name (with_definition is_same kernel d classes) ≡ b
          → defined is_same kernel d classes ≡ (if b then with_definition is_same kernel d classes else passed is_same d.name p [] (with_definition is_same kernel d classes))
      at p e true f = early_stays classes d kernel o.distinct there p (again_of classes d p o there e lacks cycle) f
      at p e false f = late_passes classes d kernel o.distinct there p (again_of classes d p o there e lacks cycle) f

      by : (s : Option N) → d.superclass ≡ s → defined is_same kernel d classes ≡ put_behind is_same d.name s (with_definition is_same kernel d classes)
      by None e = root_stays classes d kernel o.distinct there o.before e
      by (Some p) e = at p e (comes_first is_same p d.name (with_definition is_same kernel d classes)) refl

  -- a class is there where its name stands among the classes
  pub has_stands : (cs : List (ClassOf N)) (n : N) → has_class is_same cs n ≡ stands_in is_same n cs
  has_stands [] n = refl
  has_stands (y ∷ ys) n = by (is_same n y.name) (has_stands ys n)
    where
      by : (b : Bool) → has_class is_same ys n ≡ stands_in is_same n ys → is_some (cond b (Some y) (find (λ (c : ClassOf N). is_same n c.name) ys)) ≡ (b || stands_in is_same n ys)
      by true rest = refl
      by false rest = rest

  -- classes that are changed and keep their names
  stands_changed : (n m : N) (f : ClassOf N → ClassOf N) → ((c : ClassOf N) → (f c).name ≡ c.name) → (cs : List (ClassOf N)) → stands_in is_same m (changed_class is_same n f cs) ≡ stands_in is_same m cs
  stands_changed n m f keeps [] = refl
  stands_changed n m f keeps (c ∷ cs) = by (is_same n c.name) (stands_changed n m f keeps cs)
    where
      by : (b : Bool) → stands_in is_same m (changed_class is_same n f cs) ≡ stands_in is_same m cs → (is_same m (if b then f c else c).name || stands_in is_same m (changed_class is_same n f cs)) ≡ (is_same m c.name || stands_in is_same m cs)
      by true h = (λ i. is_same m (keeps c i) || h i)
      by false h = ap (λ b. is_same m c.name || b) h

  pub has_changed : (n m : N) (f : ClassOf N → ClassOf N) → ((c : ClassOf N) → (f c).name ≡ c.name) → (cs : List (ClassOf N)) → has_class is_same (changed_class is_same n f cs) m ≡ has_class is_same cs m
  has_changed n m f keeps cs = has_stands (changed_class is_same n f cs) m ∙ stands_changed n m f keeps cs ∙ sym (has_stands cs m)

  -- a definition that is not refused
  pub defined_leaves : (classes : List (ClassOf N)) (d : DefinitionOf N) (kernel : Bool) → AreInOrder classes → lacks_superclass is_same classes d ≡ false → makes_cycle is_same classes d ≡ false → Leaves is_same classes (defined is_same kernel d classes)
  defined_leaves classes d kernel o lacks cycle = by (has_class is_same classes d.name) refl d.superclass refl
    where
      again : has_class is_same classes d.name ≡ true → with_definition is_same kernel d classes ≡ changed_class is_same d.name (class_again d) classes
      again there = ap (λ (b : Bool). if b then changed_class is_same d.name (class_again d) classes else classes ++ new_class kernel d ∷ []) there

      distinct_again : has_class is_same classes d.name ≡ true → HasNoRepeat (class_names (with_definition is_same kernel d classes))
      distinct_again there =
          subst (λ (cs : List (ClassOf N)). HasNoRepeat (class_names cs)) (sym (again there))
          (subst (λ (ns : List N). HasNoRepeat ns) (sym (names_changed is_same reflexive equal d.name (class_again d) (λ c. refl) classes)) o.distinct)

      stands_again : has_class is_same classes d.name ≡ true → (n : N) → has_class is_same classes n ≡ true → stands_in is_same n (with_definition is_same kernel d classes) ≡ true
      stands_again there n h = ap (stands_in is_same n) (again there) ∙ stands_changed d.name n (class_again d) (λ c. refl) classes ∙ sym (has_stands classes n) ∙ h

      fresh_is : has_class is_same classes d.name ≡ false → defined is_same kernel d classes ≡ classes ++ new_class kernel d ∷ []
      fresh_is fresh =
          ap (λ (b : Bool). if b then settled is_same (with_definition is_same kernel d classes) else with_definition is_same kernel d classes) fresh
          ∙ ap (λ (b : Bool). if b then changed_class is_same d.name (class_again d) classes else classes ++ new_class kernel d ∷ []) fresh

      names_behind : (cs : List (ClassOf N)) → class_names (cs ++ new_class kernel d ∷ []) ≡ class_names cs ++ d.name ∷ []
      names_behind [] = refl
      names_behind (c ∷ cs) = ap (λ ns. c.name ∷ ns) (names_behind cs)

      follows : (s : Option N) → d.superclass ≡ s → can_follow is_same classes (new_class kernel d) ≡ true
      follows None e = ap (λ s. option_map_or (λ n. stands_in is_same n classes) s true) e
      follows (Some p) e =
          ap (λ s. option_map_or (λ n. stands_in is_same n classes) s true) e ∙ sym (has_stands classes p)
          ∙ not_there (has_class is_same classes p) (ap (λ s. option_map_or (λ q. not (has_class is_same classes q)) s false) (sym e) ∙ lacks)

      by : (b : Bool) → has_class is_same classes d.name ≡ b → (s : Option N) → d.superclass ≡ s → Leaves is_same classes (defined is_same kernel d classes)
      by true there None e =
          let stays = root_stays classes d kernel o.distinct there o.before e in
          record {
            order = record { distinct = subst (λ (cs : List (ClassOf N)). HasNoRepeat (class_names cs)) (sym stays) (distinct_again there); before = root_first classes d kernel o.distinct there o.before e };
            kept = λ n h. ap (λ (cs : List (ClassOf N)). has_class is_same cs n) stays ∙ has_stands (with_definition is_same kernel d classes) n ∙ stands_again there n h;
          }
      by true there (Some p) e =
          let s = again_settled is_same reflexive equal classes d p kernel (again_of classes d p o there e lacks cycle) in
          record {
            order = record { distinct = no_repeat_moved is_same reflexive equal (with_definition is_same kernel d classes) (defined is_same kernel d classes) s.same (distinct_again there); before = s.first };
            kept = λ n h. has_stands (defined is_same kernel d classes) n
                ∙ sym (list_any-IsPermutation (λ (c : ClassOf N). is_same n c.name) (with_definition is_same kernel d classes) (defined is_same kernel d classes) s.same) ∙ stands_again there n h;
          }
      by false fresh s e = record {
        order = record {
          distinct = subst (λ (cs : List (ClassOf N)). HasNoRepeat (class_names cs)) (sym (fresh_is fresh))
              (subst (λ (ns : List N). HasNoRepeat ns) (sym (names_behind classes)) (no_repeat_last is_same reflexive equal (class_names classes) d.name o.distinct (absent is_same reflexive equal classes d.name fresh)));
          before = subst SuperclassesStandBefore (sym (fresh_is fresh))
              (in_order is_same reflexive equal (classes ++ new_class kernel d ∷ []) (turn_both is_same reflexive equal [] classes (new_class kernel d ∷ []) (turn_of is_same reflexive equal [] classes o.before) (follows s e, tt)));
        };
        kept = λ n h. ap (λ (cs : List (ClassOf N)). has_class is_same cs n) (fresh_is fresh) ∙ has_stands (classes ++ new_class kernel d ∷ []) n
            ∙ stands_left is_same reflexive equal n classes (new_class kernel d ∷ []) (sym (has_stands classes n) ∙ h);
      }

  -- a class that has no subclass can be left out
  pub removed_order : (classes : List (ClassOf N)) (n : N) → AreInOrder classes → has_subclass is_same classes n ≡ false → AreInOrder (filter (λ (c : ClassOf N). not (is_same n c.name)) classes)
  removed_order classes n o none = record {
    distinct = no_repeat_filter is_same reflexive equal (λ (c : ClassOf N). not (is_same n c.name)) classes o.distinct;
    before = in_order is_same reflexive equal (filter (λ (c : ClassOf N). not (is_same n c.name)) classes)
        (turn_without is_same reflexive equal n [] [] classes (λ s k f. k) (turn_of is_same reflexive equal [] classes o.before) (none_pass (λ (c : ClassOf N). option_map_or (is_same n) c.superclass false) classes none));
  }
