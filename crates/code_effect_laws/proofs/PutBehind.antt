-- A list into which an item is put behind the last one that passes.
use Rattle.std.proofs.Common.{◌≡◌, ◌⊎◌, inl, inr, Bool, true, false, not, cond, List, [], ◌∷◌, map, filter, refl, sym, ap, subst, ◌∙◌}
use Rattle.std.specs.Prelude.{◌&&◌, if◌then◌else◌}
use Rattle.std.specs.List.{list_any}
use Rattle.command_model.specs.Extracted.{put_behind_last}
use Rattle.effect_laws.proofs.Items.{In, Once, in_map, map_in}
use Rattle.effect_laws.proofs.KernelInFront.{IsFront}

module _ {X : Type 0} (p : X → Bool) (x : X) where
  -- what is in it
  pub put_in : (xs : List X) (y : X) → In (put_behind_last p x xs) y → (x ≡ y) ⊎ In xs y
  put_in [] y h = absurd h
  put_in (z ∷ zs) y h = by (p z && not (list_any p zs)) h (put_in zs y)
    where
      later : (x ≡ y) ⊎ In zs y → (x ≡ y) ⊎ In (z ∷ zs) y
      later (inl e) = inl e
      later (inr k) = inr (inr k)

      by : (b : Bool) → In (if b then z ∷ x ∷ zs else z ∷ put_behind_last p x zs) y → (In (put_behind_last p x zs) y → (x ≡ y) ⊎ In zs y) → (x ≡ y) ⊎ In (z ∷ zs) y
      by true (inl e) rest = inr (inl e)
      by true (inr (inl e)) rest = inl e
      by true (inr (inr k)) rest = inr (inr k)
      by false (inl e) rest = inr (inl e)
      by false (inr k) rest = later (rest k)

  -- items that are told apart by a function
  pub once_put : {Y : Type 0} (f : X → Y) (xs : List X) → Once (map f xs) → ((y : X) → In xs y → f y ≡ f x → ⊥) → Once (map f (put_behind_last p x xs))
  once_put f [] o h = tt
  once_put f (z ∷ zs) o h = by (p z && not (list_any p zs)) (once_put f zs o.1 (λ y k. h y (inr k)))
    where
      fresh : In (map f zs) (f x) → ⊥
      fresh k = let r = map_in f zs (f x) k in h r.0 (inr r.1) r.2

      apart : In (map f (x ∷ zs)) (f z) → ⊥
      apart (inl e) = h z (inl refl) (sym e)
      apart (inr k) = o.0 k

      other : In (map f (put_behind_last p x zs)) (f z) → ⊥
      other k = let r = map_in f (put_behind_last p x zs) (f z) k in last r.0 r.2 (put_in zs r.0 r.1)
        where
          last : (y : X) → f y ≡ f z → (x ≡ y) ⊎ In zs y → ⊥
          last y e (inl same) = h z (inl refl) (sym e ∙ ap f (sym same))
          last y e (inr there) = o.0 (subst (In (map f zs)) e (in_map f zs y there))

      by : (b : Bool) → Once (map f (put_behind_last p x zs)) → Once (map f (if b then z ∷ x ∷ zs else z ∷ put_behind_last p x zs))
      by true rest = (apart, (fresh, o.1))
      by false rest = (other, rest)

  -- an item that fails a test changes nothing of those that pass it
  pub filter_put : (k : X → Bool) (xs : List X) → k x ≡ false → filter k (put_behind_last p x xs) ≡ filter k xs
  filter_put k [] h = refl
  filter_put k (z ∷ zs) h = by (p z && not (list_any p zs)) (filter_put k zs h)
    where
      by : (b : Bool) → filter k (put_behind_last p x zs) ≡ filter k zs → filter k (if b then z ∷ x ∷ zs else z ∷ put_behind_last p x zs) ≡ filter k (z ∷ zs)
      by true rest = ap (λ c. cond (k z) (z ∷ cond c (x ∷ filter k zs) (filter k zs)) (cond c (x ∷ filter k zs) (filter k zs))) h
      by false rest = ap (λ ys. cond (k z) (z ∷ ys) ys) rest

  -- those that pass a test stay in front, where those behind which the new one comes fail it
  pub front_put : (k : X → Bool) (xs : List X) → k x ≡ false → ((y : X) → In xs y → p y ≡ true → k y ≡ false) → IsFront k xs → IsFront k (put_behind_last p x xs)
  front_put k [] h u f = f
  front_put k (z ∷ zs) h u f = by (p z) (not (list_any p zs)) refl (front_put k zs h (λ y there. u y (inr there)) f.1)
    where
      either : (y : X) → k z ≡ false → (x ≡ y) ⊎ In zs y → k y ≡ false
      either y q (inl e) = ap k (sym e) ∙ h
      either y q (inr there) = f.0 q y there

      by : (a b : Bool) → p z ≡ a → IsFront k (put_behind_last p x zs) → IsFront k (if a && b then z ∷ x ∷ zs else z ∷ put_behind_last p x zs)
      by true true q rest = ((λ e y there. either y e there), ((λ e y there. f.0 (u z (inl refl) q) y there), f.1))
      by true false q rest = ((λ e y there. either y e (put_in zs y there)), rest)
      by false b q rest = ((λ e y there. either y e (put_in zs y there)), rest)
