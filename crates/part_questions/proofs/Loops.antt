-- The selectors of loops.
use Rattle.std.proofs.Common.{◌≡◌, ℕ, Bool, true, false, ◌||◌, List, refl, sym, ap, ◌∙◌}
use Rattle.std.specs.Prelude.{codes, if◌then◌else◌}
use Rattle.std.specs.Cmp.Lexicographic.{same_text}
use Rattle.rb_base.specs.Names.{text_eq}
use Rattle.scope_model.specs.declared.local.ControlForm.TheVariants.{OneBlock, TwoBlocks, Loop, NoControl}
use Rattle.scope_model.specs.Control.{is_loop}
use Rattle.scope_model.specs.SpecialNames.{control_form, is_one_of, one_block_selectors, two_block_selectors}

-- a selector demands its receiver to be a block just if it is one of these
pub loop_form : (s : List ℕ) → (text_eq s (codes "whileTrue:") || text_eq s (codes "whileFalse:")) ≡ is_loop (control_form s)
unfolding control_form
loop_form s = by (text_eq s (codes "whileTrue:")) (text_eq s (codes "whileFalse:")) refl refl
  where
    others : (x y : Bool) → false ≡ is_loop (if x then OneBlock else if y then TwoBlocks else NoControl)
    others true y = refl
    others false true = refl
    others false false = refl

    by : (a b : Bool) → text_eq s (codes "whileTrue:") ≡ a → text_eq s (codes "whileFalse:") ≡ b → (a || b) ≡ is_loop (control_form s)
    by true b e f = ap (λ (x : List ℕ). is_loop (control_form x)) (sym (same_text s (codes "whileTrue:") (sym e)))
    by false true e f = ap (λ (x : List ℕ). is_loop (control_form x)) (sym (same_text s (codes "whileFalse:") (sym f)))
    by false false e f =
        others (is_one_of one_block_selectors s) (is_one_of two_block_selectors s)
        ∙ (λ j. is_loop (if is_one_of one_block_selectors s then OneBlock else if is_one_of two_block_selectors s then TwoBlocks else if sym e j || (sym f j || false) then Loop else NoControl))

-- by the first test, or by the second one
pub loop-first : (s t : List ℕ) (r : Bool) → t ≡ s → r ≡ text_eq t (codes "whileTrue:") → r ≡ true → r ≡ is_loop (control_form s)
loop-first s t r e h y =
    let told : text_eq s (codes "whileTrue:") ≡ true = (λ j. text_eq (sym e j) (codes "whileTrue:")) ∙ sym h ∙ y in
    y ∙ (λ j. sym told j || text_eq s (codes "whileFalse:")) ∙ loop_form s

pub loop-second : (s t : List ℕ) (r q : Bool) → t ≡ s → r ≡ text_eq t (codes "whileTrue:") → r ≡ false → q ≡ text_eq t (codes "whileFalse:") → q ≡ is_loop (control_form s)
loop-second s t r q e h y g =
    let told : text_eq s (codes "whileTrue:") ≡ false = (λ j. text_eq (sym e j) (codes "whileTrue:")) ∙ sym h ∙ y in
    g ∙ (λ j. text_eq (e j) (codes "whileFalse:")) ∙ (λ j. sym told j || text_eq s (codes "whileFalse:")) ∙ loop_form s
