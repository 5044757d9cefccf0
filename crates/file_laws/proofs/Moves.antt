-- Which classes move where a class gets a superclass that stands behind it.
use Rattle.std.proofs.Common.{◌≡◌, ◌⊎◌, inl, inr, Bool, true, false, not, cond, List, [], ◌∷◌, ◌++◌, filter, Option, Some, None, refl, sym, ap, subst, ◌∙◌, true≢false, append_assoc}
use Rattle.std.specs.Prelude.{◌||◌}
use Rattle.std.specs.List.{AllByRecursion}
use Rattle.std.specs.Option.{option_map_or}
use Rattle.std.specs.List.Sorted.{IsPermutation}
use Rattle.std.proofs.lemmas.List.Sorted.{IsPermutation-trans, IsPermutation-sym, IsPermutation-cons, IsPermutation-middle, IsPermutation-append_left, IsPermutation-append_right, IsPermutation-filter_both}
use Rattle.std.proofs.lemmas.Bool.Decides.{Decides-eqb}
use Rattle.std.proofs.lemmas.Slice.Eq.{slice_eq-Decides}
use Rattle.rb_base.specs.Names.{text_eq}
use Rattle.image_model.specs.Image.{ClassOf}
use Rattle.file_model.specs.Filing.{Text}
use Rattle.file_model.specs.Hierarchy.{stands_in, can_follow}
use Rattle.file_laws.specs.Settling.{IsTakenInTurn, IsHeld, moving, staying, WaitsFor}

-- texts that the test finds equal
pub text_equal : (s t : Text) → text_eq s t ≡ true → s ≡ t
text_equal s t h = (slice_eq-Decides Decides-eqb s t (text_eq s t) refl).0 h

-- a fact of each item that follows from another
pub All-weaker : {X : Type 0} (P Q : X → Type 0) (xs : List X) → ((x : X) → P x → Q x) → AllByRecursion P xs → AllByRecursion Q xs
All-weaker P Q [] f all = tt
All-weaker P Q (x ∷ xs) f all = (f x all.0, All-weaker P Q xs f all.1)

-- of two lists, one behind the other
pub All-append : {X : Type 0} (P : X → Type 0) (xs ys : List X) → AllByRecursion P xs → AllByRecursion P ys → AllByRecursion P (xs ++ ys)
All-append P [] ys a b = b
All-append P (x ∷ xs) ys a b = (a.0, All-append P xs ys a.1 b)

pub or_either : (a b : Bool) → (a || b) ≡ true → (a ≡ true) ⊎ (b ≡ true)
or_either true b h = inl refl
or_either false b h = inr h

or_right : (a b : Bool) → b ≡ true → (a || b) ≡ true
or_right true b h = refl
or_right false b h = h

-- The classes that move are told by their names: a class moves exactly where its superclass does, and a class without one does not.
pub record Inherits {N : Type 0} (m : N → Bool) (x : ClassOf N) : Type 0 where
  pub below : (s : N) → x.superclass ≡ Some s → m x.name ≡ m s
  pub root : x.superclass ≡ None → m x.name ≡ false

-- Classes in order, of which one, at whose name the moving begins, is replaced by one of its name with another superclass that stands behind it and does not move.
pub record Redefines {N : Type 0} (is_same : N → N → Bool) (m : N → Bool) (front : List (ClassOf N)) (c new : ClassOf N) (middle : List (ClassOf N)) (above : ClassOf N) (back : List (ClassOf N)) : Type 0 where
  pub in_order : IsTakenInTurn is_same [] (front ++ (c ∷ (middle ++ (above ∷ back))))
  pub same_name : new.name ≡ c.name
  pub under : new.superclass ≡ Some above.name
  pub begins : m c.name ≡ true
  pub above_stays : m above.name ≡ false
  pub front_stays : AllByRecursion (λ (y : ClassOf N). m y.name ≡ false) front
  pub middle_inherits : AllByRecursion (Inherits m) middle
  pub above_inherits : Inherits m above
  pub not_in_front : stands_in is_same above.name front ≡ false
  pub not_in_middle : stands_in is_same above.name middle ≡ false

-- over names that a test tells apart
module _ {N : Type 0} (is_same : N → N → Bool) (reflexive : (n : N) → is_same n n ≡ true) (equal : (s t : N) → is_same s t ≡ true → s ≡ t) where
  -- a name stands in one of two lists
  pub stands_either : (s : N) (xs ys : List (ClassOf N)) → stands_in is_same s (xs ++ ys) ≡ true → (stands_in is_same s xs ≡ true) ⊎ (stands_in is_same s ys ≡ true)
  stands_either s [] ys h = inr h
  stands_either s (x ∷ xs) ys h = by (is_same s x.name) h (stands_either s xs ys)
    where
      by : (b : Bool) → (b || stands_in is_same s (xs ++ ys)) ≡ true → (stands_in is_same s (xs ++ ys) ≡ true → (stands_in is_same s xs ≡ true) ⊎ (stands_in is_same s ys ≡ true))
          → ((b || stands_in is_same s xs) ≡ true) ⊎ (stands_in is_same s ys ≡ true)
      by true k rest = inl refl
      by false k rest = rest k

  pub stands_left : (s : N) (xs ys : List (ClassOf N)) → stands_in is_same s xs ≡ true → stands_in is_same s (xs ++ ys) ≡ true
  stands_left s [] ys h = absurd (true≢false (sym h))
  stands_left s (x ∷ xs) ys h = by (is_same s x.name) h (stands_left s xs ys)
    where
      by : (b : Bool) → (b || stands_in is_same s xs) ≡ true → (stands_in is_same s xs ≡ true → stands_in is_same s (xs ++ ys) ≡ true) → (b || stands_in is_same s (xs ++ ys)) ≡ true
      by true k rest = refl
      by false k rest = rest k

  pub stands_right : (s : N) (xs ys : List (ClassOf N)) → stands_in is_same s ys ≡ true → stands_in is_same s (xs ++ ys) ≡ true
  stands_right s [] ys h = h
  stands_right s (x ∷ xs) ys h = or_right (is_same s x.name) (stands_in is_same s (xs ++ ys)) (stands_right s xs ys h)

  -- the name of the one class of a list
  pub stands_alone : (s : N) (x : ClassOf N) → stands_in is_same s (x ∷ []) ≡ true → s ≡ x.name
  stands_alone s x h = by (or_either (is_same s x.name) false h)
    where
      by : (is_same s x.name ≡ true) ⊎ (false ≡ true) → s ≡ x.name
      by (inl same) = equal s x.name same
      by (inr e) = absurd (true≢false (sym e))

  -- a class stands in the list of it
  pub its_name : (x : ClassOf N) (xs : List (ClassOf N)) → stands_in is_same x.name (x ∷ xs) ≡ true
  its_name x xs = ap (λ b. b || stands_in is_same x.name xs) (reflexive x.name)

  -- with one more class on both sides
  covers_more : (xs ys : List (ClassOf N)) (x : ClassOf N) → ((s : N) → stands_in is_same s xs ≡ true → stands_in is_same s ys ≡ true) → (s : N) → stands_in is_same s (xs ++ x ∷ []) ≡ true → stands_in is_same s (ys ++ x ∷ []) ≡ true
  covers_more xs ys x cov s h = by (stands_either s xs (x ∷ []) h)
    where
      by : (stands_in is_same s xs ≡ true) ⊎ (stands_in is_same s (x ∷ []) ≡ true) → stands_in is_same s (ys ++ x ∷ []) ≡ true
      by (inl k) = stands_left s ys (x ∷ []) (cov s k)
      by (inr k) = stands_right s ys (x ∷ []) k

  -- a class follows where more names are taken
  pub follows_more : (xs ys : List (ClassOf N)) (c : ClassOf N) → ((s : N) → c.superclass ≡ Some s → stands_in is_same s xs ≡ true → stands_in is_same s ys ≡ true) → can_follow is_same xs c ≡ true → can_follow is_same ys c ≡ true
  follows_more xs ys c cov h = by c.superclass refl h
    where
      by : (o : Option N) → c.superclass ≡ o → option_map_or (λ n. stands_in is_same n xs) o true ≡ true → option_map_or (λ n. stands_in is_same n ys) o true ≡ true
      by None e k = refl
      by (Some n) e k = cov n e k

  -- what is taken in turn is so where more names are taken
  pub turn_more : (xs ys left : List (ClassOf N)) → ((s : N) → stands_in is_same s xs ≡ true → stands_in is_same s ys ≡ true) → IsTakenInTurn is_same xs left → IsTakenInTurn is_same ys left
  turn_more xs ys [] cov turn = tt
  turn_more xs ys (c ∷ cs) cov turn = (follows_more xs ys c (λ s e h. cov s h) turn.0, turn_more (xs ++ c ∷ []) (ys ++ c ∷ []) cs (covers_more xs ys c cov) turn.1)

  -- the first ones of what is taken in turn
  pub turn_front : (t a b : List (ClassOf N)) → IsTakenInTurn is_same t (a ++ b) → IsTakenInTurn is_same t a
  turn_front t [] b turn = tt
  turn_front t (x ∷ a) b turn = (turn.0, turn_front (t ++ x ∷ []) a b turn.1)

  -- and the others
  pub turn_back : (t a b : List (ClassOf N)) → IsTakenInTurn is_same t (a ++ b) → IsTakenInTurn is_same (t ++ a) b
  turn_back t [] b turn = subst (λ (ys : List (ClassOf N)). IsTakenInTurn is_same ys b) (sym (append_nil t)) turn
    where
      append_nil : (ys : List (ClassOf N)) → ys ++ [] ≡ ys
      append_nil [] = refl
      append_nil (y ∷ ys) = ap (λ zs. y ∷ zs) (append_nil ys)
  turn_back t (x ∷ a) b turn = subst (λ (ys : List (ClassOf N)). IsTakenInTurn is_same ys b) (append_assoc t (x ∷ []) a) (turn_back (t ++ x ∷ []) a b turn.1)

  -- two lists, one behind the other
  pub turn_both : (t a b : List (ClassOf N)) → IsTakenInTurn is_same t a → IsTakenInTurn is_same (t ++ a) b → IsTakenInTurn is_same t (a ++ b)
  turn_both t [] b u v = subst (λ (ys : List (ClassOf N)). IsTakenInTurn is_same ys b) (append_nil t) v
    where
      append_nil : (ys : List (ClassOf N)) → ys ++ [] ≡ ys
      append_nil [] = refl
      append_nil (y ∷ ys) = ap (λ zs. y ∷ zs) (append_nil ys)
  turn_both t (x ∷ a) b u v = (u.0, turn_both (t ++ x ∷ []) a b u.1 (subst (λ (ys : List (ClassOf N)). IsTakenInTurn is_same ys b) (sym (append_assoc t (x ∷ []) a)) v))

  -- a name that does not move stands among those that stay
  pub stands_staying : (m : N → Bool) (rest : List (ClassOf N)) (s : N) → stands_in is_same s rest ≡ true → m s ≡ false → stands_in is_same s (staying (λ x. m x.name) rest) ≡ true
  stands_staying m [] s h f = h
  stands_staying m (x ∷ xs) s h f = by (m x.name) refl (or_either (is_same s x.name) (stands_in is_same s xs) h) (λ k. stands_staying m xs s k f)
    where
      by : (b : Bool) → m x.name ≡ b → (is_same s x.name ≡ true) ⊎ (stands_in is_same s xs ≡ true) → (stands_in is_same s xs ≡ true → stands_in is_same s (staying (λ y. m y.name) xs) ≡ true)
          → stands_in is_same s (cond (not b) (x ∷ staying (λ y. m y.name) xs) (staying (λ y. m y.name) xs)) ≡ true
      by true e (inl same) rest = absurd (true≢false (sym e ∙ ap m (sym (equal s x.name same)) ∙ f))
      by true e (inr k) rest = rest k
      by false e (inl same) rest = ap (λ b. b || stands_in is_same s (staying (λ y. m y.name) xs)) same
      by false e (inr k) rest = or_right (is_same s x.name) (stands_in is_same s (staying (λ y. m y.name) xs)) (rest k)

  -- a name that moves stands among those that move
  pub stands_moving : (m : N → Bool) (rest : List (ClassOf N)) (s : N) → stands_in is_same s rest ≡ true → m s ≡ true → stands_in is_same s (moving (λ x. m x.name) rest) ≡ true
  stands_moving m [] s h t = h
  stands_moving m (x ∷ xs) s h t = by (m x.name) refl (or_either (is_same s x.name) (stands_in is_same s xs) h) (λ k. stands_moving m xs s k t)
    where
      by : (b : Bool) → m x.name ≡ b → (is_same s x.name ≡ true) ⊎ (stands_in is_same s xs ≡ true) → (stands_in is_same s xs ≡ true → stands_in is_same s (moving (λ y. m y.name) xs) ≡ true)
          → stands_in is_same s (cond b (x ∷ moving (λ y. m y.name) xs) (moving (λ y. m y.name) xs)) ≡ true
      by false e (inl same) rest = absurd (true≢false (sym t ∙ ap m (equal s x.name same) ∙ e))
      by false e (inr k) rest = rest k
      by true e (inl same) rest = ap (λ b. b || stands_in is_same s (moving (λ y. m y.name) xs)) same
      by true e (inr k) rest = or_right (is_same s x.name) (stands_in is_same s (moving (λ y. m y.name) xs)) (rest k)

  -- what stays is taken in turn without what moves
  stay_turn : (m : N → Bool) (seen taken rest : List (ClassOf N)) → ((s : N) → stands_in is_same s seen ≡ true → m s ≡ false → stands_in is_same s taken ≡ true)
      → IsTakenInTurn is_same seen rest → AllByRecursion (Inherits m) rest → IsTakenInTurn is_same taken (staying (λ x. m x.name) rest)
  stay_turn m seen taken [] cov turn inh = tt
  stay_turn m seen taken (x ∷ xs) cov turn inh = by (m x.name) refl (λ t c. stay_turn m (seen ++ x ∷ []) t xs c turn.1 inh.1)
    where
      by : (b : Bool) → m x.name ≡ b → ((t : List (ClassOf N)) → ((s : N) → stands_in is_same s (seen ++ x ∷ []) ≡ true → m s ≡ false → stands_in is_same s t ≡ true) → IsTakenInTurn is_same t (staying (λ y. m y.name) xs))
          → IsTakenInTurn is_same taken (cond (not b) (x ∷ staying (λ y. m y.name) xs) (staying (λ y. m y.name) xs))
      by true e next = next taken (λ s h f. at s f (stands_either s seen (x ∷ []) h))
        where
          at : (s : N) → m s ≡ false → (stands_in is_same s seen ≡ true) ⊎ (stands_in is_same s (x ∷ []) ≡ true) → stands_in is_same s taken ≡ true
          at s f (inl k) = cov s k f
          at s f (inr k) = absurd (true≢false (sym e ∙ ap m (sym (stands_alone s x k)) ∙ f))
      by false e next = (
        follows_more seen taken x (λ s q h. cov s h (sym (inh.0.below s q) ∙ e)) turn.0,
        next (taken ++ x ∷ []) (λ s h f. at s f (stands_either s seen (x ∷ []) h)),
      )
        where
          at : (s : N) → m s ≡ false → (stands_in is_same s seen ≡ true) ⊎ (stands_in is_same s (x ∷ []) ≡ true) → stands_in is_same s (taken ++ x ∷ []) ≡ true
          at s f (inl k) = stands_left s taken (x ∷ []) (cov s k f)
          at s f (inr k) = stands_right s taken (x ∷ []) k

  -- what moves is taken in turn where the names of what stays are taken
  move_turn : (m : N → Bool) (seen taken rest : List (ClassOf N)) → ((s : N) → stands_in is_same s seen ≡ true → stands_in is_same s taken ≡ true)
      → IsTakenInTurn is_same seen rest → AllByRecursion (λ (x : ClassOf N). m x.name ≡ false → stands_in is_same x.name taken ≡ true) rest → IsTakenInTurn is_same taken (moving (λ x. m x.name) rest)
  move_turn m seen taken [] cov turn there = tt
  move_turn m seen taken (x ∷ xs) cov turn there = by (m x.name) refl (λ t c w. move_turn m (seen ++ x ∷ []) t xs c turn.1 w)
    where
      by : (b : Bool) → m x.name ≡ b → ((t : List (ClassOf N)) → ((s : N) → stands_in is_same s (seen ++ x ∷ []) ≡ true → stands_in is_same s t ≡ true) → AllByRecursion (λ (y : ClassOf N). m y.name ≡ false → stands_in is_same y.name t ≡ true) xs → IsTakenInTurn is_same t (moving (λ y. m y.name) xs))
          → IsTakenInTurn is_same taken (cond b (x ∷ moving (λ y. m y.name) xs) (moving (λ y. m y.name) xs))
      by true e next = (
        follows_more seen taken x (λ s q h. cov s h) turn.0,
        next (taken ++ x ∷ []) (covers_more seen taken x cov)
            (All-weaker (λ (y : ClassOf N). m y.name ≡ false → stands_in is_same y.name taken ≡ true) (λ (y : ClassOf N). m y.name ≡ false → stands_in is_same y.name (taken ++ x ∷ []) ≡ true) xs (λ y w f. stands_left y.name taken (x ∷ []) (w f)) there.1),
      )
      by false e next = next taken (λ s h. at s (stands_either s seen (x ∷ []) h)) there.1
        where
          at : (s : N) → (stands_in is_same s seen ≡ true) ⊎ (stands_in is_same s (x ∷ []) ≡ true) → stands_in is_same s taken ≡ true
          at s (inl k) = cov s k
          at s (inr k) = subst (λ (t : N). stands_in is_same t taken ≡ true) (sym (stands_alone s x k)) (there.0 e)

  -- a name that moves stands in no list of classes that stay
  pub none_stands : (m : N → Bool) (taken : List (ClassOf N)) (s : N) → AllByRecursion (λ (y : ClassOf N). m y.name ≡ false) taken → m s ≡ true → stands_in is_same s taken ≡ false
  none_stands m [] s all t = refl
  none_stands m (y ∷ ys) s all t = by (is_same s y.name) refl (none_stands m ys s all.1 t)
    where
      by : (b : Bool) → is_same s y.name ≡ b → stands_in is_same s ys ≡ false → (b || stands_in is_same s ys) ≡ false
      by true e rest = absurd (true≢false (sym t ∙ ap m (equal s y.name e) ∙ all.0))
      by false e rest = rest

  -- what moves is held where only what stays is taken
  all_held : (m : N → Bool) (taken rest : List (ClassOf N)) → AllByRecursion (λ (y : ClassOf N). m y.name ≡ false) taken → AllByRecursion (Inherits m) rest → AllByRecursion (IsHeld is_same taken) (moving (λ x. m x.name) rest)
  all_held m taken [] out inh = tt
  all_held m taken (x ∷ xs) out inh = by (m x.name) refl (all_held m taken xs out inh.1)
    where
      held : m x.name ≡ true → (o : Option N) → x.superclass ≡ o → option_map_or (λ n. stands_in is_same n taken) o true ≡ false
      held e None q = absurd (true≢false (sym e ∙ inh.0.root q))
      held e (Some s) q = none_stands m taken s out (sym (inh.0.below s q) ∙ e)

      by : (b : Bool) → m x.name ≡ b → AllByRecursion (IsHeld is_same taken) (moving (λ y. m y.name) xs) → AllByRecursion (IsHeld is_same taken) (cond b (x ∷ moving (λ y. m y.name) xs) (moving (λ y. m y.name) xs))
      by true e rest = (held e x.superclass refl, rest)
      by false e rest = rest

  -- what stays does not move
  all_stay : (m : N → Bool) (rest : List (ClassOf N)) → AllByRecursion (λ (y : ClassOf N). m y.name ≡ false) (staying (λ x. m x.name) rest)
  all_stay m [] = tt
  all_stay m (x ∷ xs) = by (m x.name) refl (all_stay m xs)
    where
      by : (b : Bool) → m x.name ≡ b → AllByRecursion (λ (y : ClassOf N). m y.name ≡ false) (staying (λ y. m y.name) xs) → AllByRecursion (λ (y : ClassOf N). m y.name ≡ false) (cond (not b) (x ∷ staying (λ y. m y.name) xs) (staying (λ y. m y.name) xs))
      by true e rest = rest
      by false e rest = (e, rest)

  -- a name that stands in neither of two lists
  none_both : (s : N) (xs ys : List (ClassOf N)) → stands_in is_same s xs ≡ false → stands_in is_same s ys ≡ false → stands_in is_same s (xs ++ ys) ≡ false
  none_both s [] ys a b = b
  none_both s (x ∷ xs) ys a b = by (is_same s x.name) a (λ k. none_both s xs ys k b)
    where
      by : (t : Bool) → (t || stands_in is_same s xs) ≡ false → (stands_in is_same s xs ≡ false → stands_in is_same s (xs ++ ys) ≡ false) → (t || stands_in is_same s (xs ++ ys)) ≡ false
      by true k rest = k
      by false k rest = rest k

  -- a name that does not stand in a list stands among none of those that stay
  none_staying : (m : N → Bool) (s : N) (xs : List (ClassOf N)) → stands_in is_same s xs ≡ false → stands_in is_same s (staying (λ x. m x.name) xs) ≡ false
  none_staying m s [] h = h
  none_staying m s (x ∷ xs) h = by (m x.name) (is_same s x.name) refl h (none_staying m s xs)
    where
      by : (b t : Bool) → is_same s x.name ≡ t → (t || stands_in is_same s xs) ≡ false → (stands_in is_same s xs ≡ false → stands_in is_same s (staying (λ y. m y.name) xs) ≡ false)
          → stands_in is_same s (cond (not b) (x ∷ staying (λ y. m y.name) xs) (staying (λ y. m y.name) xs)) ≡ false
      by true true e k rest = absurd (true≢false k)
      by false true e k rest = absurd (true≢false k)
      by true false e k rest = rest k
      by false false e k rest = ap (λ t. t || stands_in is_same s (staying (λ y. m y.name) xs)) e ∙ rest k

  -- each class of a list stands in it
  members : (xs : List (ClassOf N)) → AllByRecursion (λ (x : ClassOf N). stands_in is_same x.name xs ≡ true) xs
  members [] = tt
  members (x ∷ xs) = (
    its_name x xs,
    All-weaker (λ (y : ClassOf N). stands_in is_same y.name xs ≡ true) (λ (y : ClassOf N). stands_in is_same y.name (x ∷ xs) ≡ true) xs
        (λ y h. or_right (is_same y.name x.name) (stands_in is_same y.name xs) h) (members xs),
  )

  -- each class that stays stands among those that stay
  all_there : (m : N → Bool) (rest : List (ClassOf N)) → AllByRecursion (λ (x : ClassOf N). m x.name ≡ false → stands_in is_same x.name (staying (λ y. m y.name) rest) ≡ true) rest
  all_there m rest = All-weaker (λ (x : ClassOf N). stands_in is_same x.name rest ≡ true) (λ (x : ClassOf N). m x.name ≡ false → stands_in is_same x.name (staying (λ y. m y.name) rest) ≡ true) rest
      (λ x h f. stands_staying m rest x.name h f) (members rest)

  -- then the new class waits for the one above it
  pub waits_for : (m : N → Bool) (front : List (ClassOf N)) (c new : ClassOf N) (middle : List (ClassOf N)) (above : ClassOf N) (back : List (ClassOf N)) → Redefines is_same m front c new middle above back
      → WaitsFor is_same (λ x. m x.name) front new middle above back
  waits_for m front c new middle above back r = record {
    front_in_turn = turn_front [] front (c ∷ (middle ++ (above ∷ back))) r.in_order;
    stay_in_turn = stay_turn m (front ++ c ∷ []) front middle (λ s h f. at_front s f (stands_either s front (c ∷ []) h)) middle_turn r.middle_inherits;
    waits = ap (λ o. option_map_or (λ n. stands_in is_same n (front ++ staying (λ x. m x.name) middle)) o true) r.under ∙ none_both above.name front (staying (λ x. m x.name) middle) r.not_in_front (none_staying m above.name middle r.not_in_middle);
    wait_too = all_held m (front ++ staying (λ x. m x.name) middle) middle (All-append (λ (y : ClassOf N). m y.name ≡ false) front (staying (λ x. m x.name) middle) r.front_stays (all_stay m middle)) r.middle_inherits;
    above_follows = follows_more ((front ++ c ∷ []) ++ middle) (front ++ staying (λ x. m x.name) middle) above (λ s q h. before_above s (sym (r.above_inherits.below s q) ∙ r.above_stays) (stands_either s (front ++ c ∷ []) middle h)) behind.0;
    then_in_turn = (new_follows, turn_both (((front ++ staying (λ x. m x.name) middle) ++ above ∷ []) ++ new ∷ []) (moving (λ x. m x.name) middle) back moving_turn (turn_more (((front ++ c ∷ []) ++ middle) ++ above ∷ []) ((((front ++ staying (λ x. m x.name) middle) ++ above ∷ []) ++ new ∷ []) ++ moving (λ x. m x.name) middle) back covers_back behind.1));
  }
    where
      from_c : IsTakenInTurn is_same front (c ∷ (middle ++ (above ∷ back)))
      from_c = turn_back [] front (c ∷ (middle ++ (above ∷ back))) r.in_order

      middle_turn : IsTakenInTurn is_same (front ++ c ∷ []) middle
      middle_turn = turn_front (front ++ c ∷ []) middle (above ∷ back) from_c.1

      behind : IsTakenInTurn is_same ((front ++ c ∷ []) ++ middle) (above ∷ back)
      behind = turn_back (front ++ c ∷ []) middle (above ∷ back) from_c.1

      at_front : (s : N) → m s ≡ false → (stands_in is_same s front ≡ true) ⊎ (stands_in is_same s (c ∷ []) ≡ true) → stands_in is_same s front ≡ true
      at_front s f (inl h) = h
      at_front s f (inr h) = absurd (true≢false (sym r.begins ∙ ap m (sym (stands_alone s c h)) ∙ f))

      before_above : (s : N) → m s ≡ false → (stands_in is_same s (front ++ c ∷ []) ≡ true) ⊎ (stands_in is_same s middle ≡ true) → stands_in is_same s (front ++ staying (λ x. m x.name) middle) ≡ true
      before_above s f (inl h) = stands_left s front (staying (λ x. m x.name) middle) (at_front s f (stands_either s front (c ∷ []) h))
      before_above s f (inr h) = stands_right s front (staying (λ x. m x.name) middle) (stands_staying m middle s h f)

      in_taken : (s : N) → stands_in is_same s (front ++ staying (λ x. m x.name) middle) ≡ true → stands_in is_same s (((front ++ staying (λ x. m x.name) middle) ++ above ∷ []) ++ new ∷ []) ≡ true
      in_taken s h = stands_left s ((front ++ staying (λ x. m x.name) middle) ++ above ∷ []) (new ∷ []) (stands_left s (front ++ staying (λ x. m x.name) middle) (above ∷ []) h)

      new_follows : can_follow is_same ((front ++ staying (λ x. m x.name) middle) ++ above ∷ []) new ≡ true
      new_follows =
          ap (λ o. option_map_or (λ n. stands_in is_same n ((front ++ staying (λ x. m x.name) middle) ++ above ∷ [])) o true) r.under
          ∙ stands_right above.name (front ++ staying (λ x. m x.name) middle) (above ∷ []) (its_name above [])

      from_front : (s : N) → (stands_in is_same s front ≡ true) ⊎ (stands_in is_same s (c ∷ []) ≡ true) → stands_in is_same s (((front ++ staying (λ x. m x.name) middle) ++ above ∷ []) ++ new ∷ []) ≡ true
      from_front s (inl h) = in_taken s (stands_left s front (staying (λ x. m x.name) middle) h)
      from_front s (inr h) =
          let named : new.name ≡ s = r.same_name ∙ sym (stands_alone s c h) in
          subst (λ (t : N). stands_in is_same t (((front ++ staying (λ x. m x.name) middle) ++ above ∷ []) ++ new ∷ []) ≡ true) named
          (stands_right new.name ((front ++ staying (λ x. m x.name) middle) ++ above ∷ []) (new ∷ []) (its_name new []))

      moving_turn : IsTakenInTurn is_same (((front ++ staying (λ x. m x.name) middle) ++ above ∷ []) ++ new ∷ []) (moving (λ x. m x.name) middle)
      moving_turn =
          move_turn m (front ++ c ∷ []) (((front ++ staying (λ x. m x.name) middle) ++ above ∷ []) ++ new ∷ []) middle (λ s h. from_front s (stands_either s front (c ∷ []) h)) middle_turn
          (All-weaker (λ (x : ClassOf N). m x.name ≡ false → stands_in is_same x.name (staying (λ y. m y.name) middle) ≡ true) (λ (x : ClassOf N). m x.name ≡ false → stands_in is_same x.name (((front ++ staying (λ y. m y.name) middle) ++ above ∷ []) ++ new ∷ []) ≡ true) middle
          (λ x h f. in_taken x.name (stands_right x.name front (staying (λ y. m y.name) middle) (h f))) (all_there m middle))

      from_middle : (s : N) (b : Bool) → m s ≡ b → stands_in is_same s middle ≡ true → stands_in is_same s ((((front ++ staying (λ x. m x.name) middle) ++ above ∷ []) ++ new ∷ []) ++ moving (λ x. m x.name) middle) ≡ true
      from_middle s true e h = stands_right s (((front ++ staying (λ x. m x.name) middle) ++ above ∷ []) ++ new ∷ []) (moving (λ x. m x.name) middle) (stands_moving m middle s h e)
      from_middle s false e h =
          stands_left s (((front ++ staying (λ x. m x.name) middle) ++ above ∷ []) ++ new ∷ []) (moving (λ x. m x.name) middle) (in_taken s (stands_right s front (staying (λ x. m x.name) middle) (stands_staying m middle s h e)))

      covers_back : (s : N) → stands_in is_same s (((front ++ c ∷ []) ++ middle) ++ above ∷ []) ≡ true → stands_in is_same s ((((front ++ staying (λ x. m x.name) middle) ++ above ∷ []) ++ new ∷ []) ++ moving (λ x. m x.name) middle) ≡ true
      covers_back s h = first (stands_either s ((front ++ c ∷ []) ++ middle) (above ∷ []) h)
        where
          second : (stands_in is_same s (front ++ c ∷ []) ≡ true) ⊎ (stands_in is_same s middle ≡ true) → stands_in is_same s ((((front ++ staying (λ x. m x.name) middle) ++ above ∷ []) ++ new ∷ []) ++ moving (λ x. m x.name) middle) ≡ true
          second (inl k) = stands_left s (((front ++ staying (λ x. m x.name) middle) ++ above ∷ []) ++ new ∷ []) (moving (λ x. m x.name) middle) (from_front s (stands_either s front (c ∷ []) k))
          second (inr k) = from_middle s (m s) refl k

          first : (stands_in is_same s ((front ++ c ∷ []) ++ middle) ≡ true) ⊎ (stands_in is_same s (above ∷ []) ≡ true) → stands_in is_same s ((((front ++ staying (λ x. m x.name) middle) ++ above ∷ []) ++ new ∷ []) ++ moving (λ x. m x.name) middle) ≡ true
          first (inl k) = second (stands_either s (front ++ c ∷ []) middle k)
          first (inr k) =
              stands_left s (((front ++ staying (λ x. m x.name) middle) ++ above ∷ []) ++ new ∷ []) (moving (λ x. m x.name) middle)
              (stands_left s ((front ++ staying (λ x. m x.name) middle) ++ above ∷ []) (new ∷ []) (stands_right s (front ++ staying (λ x. m x.name) middle) (above ∷ []) k))

  -- the order in which the new class stands behind the one above it has the same classes
  pub same_classes : (m : N → Bool) (front : List (ClassOf N)) (new : ClassOf N) (middle : List (ClassOf N)) (above : ClassOf N) (back : List (ClassOf N))
      → IsPermutation (front ++ (new ∷ (middle ++ (above ∷ back)))) (front ++ (staying (λ x. m x.name) middle ++ (above ∷ new ∷ (moving (λ x. m x.name) middle ++ back))))
  same_classes m front new middle above back =
      let stay = filter (λ (x : ClassOf N). not (m x.name)) middle in
      let move = filter (λ (x : ClassOf N). m x.name) middle in
      let parts : IsPermutation middle (stay ++ move) = IsPermutation-filter_both (λ (x : ClassOf N). not (m x.name)) (λ (x : ClassOf N). m x.name) (λ x. twice (m x.name)) middle in
      let first : IsPermutation (new ∷ (middle ++ above ∷ back)) (new ∷ above ∷ (middle ++ back)) = IsPermutation-cons new (middle ++ above ∷ back) (above ∷ (middle ++ back)) (IsPermutation-middle middle above back) in
      let second : IsPermutation (new ∷ above ∷ (middle ++ back)) (new ∷ above ∷ ((stay ++ move) ++ back)) =
      IsPermutation-cons new (above ∷ (middle ++ back)) (above ∷ ((stay ++ move) ++ back)) (IsPermutation-cons above (middle ++ back) ((stay ++ move) ++ back) (IsPermutation-append_left back middle (stay ++ move) parts)) in
      let third : IsPermutation (new ∷ above ∷ ((stay ++ move) ++ back)) (above ∷ new ∷ ((stay ++ move) ++ back)) = IsPermutation-middle (new ∷ []) above ((stay ++ move) ++ back) in
      let third_joined : IsPermutation (new ∷ above ∷ ((stay ++ move) ++ back)) (above ∷ new ∷ (stay ++ (move ++ back))) =
      subst (λ (ys : List (ClassOf N)). IsPermutation (new ∷ above ∷ ((stay ++ move) ++ back)) (above ∷ new ∷ ys)) (append_assoc stay move back) third in
      let fourth : IsPermutation (stay ++ above ∷ (new ∷ (move ++ back))) (above ∷ (stay ++ new ∷ (move ++ back))) = IsPermutation-middle stay above (new ∷ (move ++ back)) in
      let fifth : IsPermutation (above ∷ (stay ++ new ∷ (move ++ back))) (above ∷ new ∷ (stay ++ (move ++ back))) = IsPermutation-cons above (stay ++ new ∷ (move ++ back)) (new ∷ (stay ++ (move ++ back))) (IsPermutation-middle stay new (move ++ back)) in
      let goal_side : IsPermutation (stay ++ above ∷ (new ∷ (move ++ back))) (above ∷ new ∷ (stay ++ (move ++ back))) = IsPermutation-trans (stay ++ above ∷ (new ∷ (move ++ back))) (above ∷ (stay ++ new ∷ (move ++ back))) (above ∷ new ∷ (stay ++ (move ++ back))) fourth fifth in
      let start_side : IsPermutation (new ∷ (middle ++ above ∷ back)) (above ∷ new ∷ (stay ++ (move ++ back))) =
      IsPermutation-trans (new ∷ (middle ++ above ∷ back)) (new ∷ above ∷ (middle ++ back)) (above ∷ new ∷ (stay ++ (move ++ back))) first
      (IsPermutation-trans (new ∷ above ∷ (middle ++ back)) (new ∷ above ∷ ((stay ++ move) ++ back)) (above ∷ new ∷ (stay ++ (move ++ back))) second third_joined) in
      IsPermutation-append_right front (new ∷ (middle ++ above ∷ back)) (stay ++ above ∷ (new ∷ (move ++ back)))
      (IsPermutation-trans (new ∷ (middle ++ above ∷ back)) (above ∷ new ∷ (stay ++ (move ++ back))) (stay ++ above ∷ (new ∷ (move ++ back))) start_side
      (IsPermutation-sym (stay ++ above ∷ (new ∷ (move ++ back))) (above ∷ new ∷ (stay ++ (move ++ back))) goal_side))
    where
      twice : (b : Bool) → b ≡ not (not b)
      twice true = refl
      twice false = refl
