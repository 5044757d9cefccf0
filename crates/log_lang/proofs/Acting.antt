-- What a word and the text after it ask for, and the numbers of sessions.
use Rattle.std.proofs.Common.{◌≡◌, ℕ, ◌+◌, ◌*◌, ◌-◌, ◌≤◌, Bool, true, false, if◌then◌else◌, [], ◌∷◌, Option, Some, None, Result, Ok, Err, refl, sym, ap, subst, arith}
use Rattle.std.specs.Prelude.{IfOk, IfErr, nat_le, ◌&&◌}
use Rattle.std.specs.List.{list_all}
use Rattle.std.proofs.lemmas.Bool.{leb-true}
use Rattle.token_model.specs.Bytes.{is_digit}
use Rattle.command_words.specs.Spelling.{value_after, number_of}
use Rattle.script_model.specs.Makers.{Text}
use Rattle.script_model.specs.Commands.{Cause, BadArgument}
use Rattle.log_model.specs.Events.{Act, ActSays, is_blank_text}

-- what is so of a value, and of an error
pub ok-also : {A E : Type 0} {P Q : A → Type 0} (r : Result A E) → ((a : A) → P a → Q a) → IfOk r P → IfOk r Q
ok-also (Ok a) f h = f a h
ok-also (Err e) f h = tt

pub err-also : {A E : Type 0} {P Q : E → Type 0} (r : Result A E) → ((e : E) → P e → Q e) → IfErr r P → IfErr r Q
err-also (Ok a) f h = tt
err-also (Err e) f h = f e h

-- the same word, and the same text after it
pub says-there : (word rest first behind : Text) (answer : Result Act Cause) → word ≡ first → rest ≡ behind → ActSays word rest answer → ActSays first behind answer
says-there word rest first behind answer w b h = subst (λ (t : Text). ActSays t behind answer) w (subst (λ (t : Text). ActSays word t answer) b h)

-- the answer of a word that stands alone
abbrev alone : Act → Bool → Result Act Cause
alone act b = if b then Ok act else Err BadArgument

pub stands-alone : (act : Act) (rest : Text) → is_blank_text rest ≡ true → (let o : Result Act Cause = Ok act in o) ≡ (if is_blank_text rest then Ok act else Err BadArgument)
stands-alone act rest blank = sym (ap (alone act) blank)

pub not-alone : (act : Act) (rest : Text) → is_blank_text rest ≡ false → (let o : Result Act Cause = Err BadArgument in o) ≡ (if is_blank_text rest then Ok act else Err BadArgument)
not-alone act rest blank = sym (ap (alone act) blank)

-- the least value that digits write behind those of a number
value-least : (n : ℕ) (s : Text) → n ≤ value_after n s
value-least n [] = omega arith
value-least n (b ∷ s) = omega (arith, value-least (n * 10 + (b - 48)) s)

-- a number is from 1 to the greatest one
within : (most b n : ℕ) (s : Text) (w x y z : Bool) → nat_le 49 b ≡ w → nat_le (value_after 0 (b ∷ s)) most ≡ z
    → (let o : Option ℕ = if ((w && x) && y) && z then Some (value_after 0 (b ∷ s)) else None in o) ≡ Some n → (1 ≤ n) × (n ≤ most)
within most b n s true true true true low high e =
    let is : value_after 0 (b ∷ s) ≡ n = cc in
    let least = value-least (0 * 10 + (b - 48)) s in
    (omega (arith, is, least, leb-true 49 b low), omega (arith, is, leb-true (value_after 0 (b ∷ s)) most high))
within most b n s true true true false low high e = absurd (cc)
within most b n s true true false z low high e = absurd (cc)
within most b n s true false y z low high e = absurd (cc)
within most b n s false x y z low high e = absurd (cc)

pub number-within : (most n : ℕ) (s : Text) → number_of most s ≡ Some n → (1 ≤ n) × (n ≤ most)
number-within most n [] e = absurd (cc)
number-within most n (b ∷ s) e = within most b n s (nat_le 49 b) (nat_le b 57) (list_all is_digit s) (nat_le (value_after 0 (b ∷ s)) most) refl refl e
