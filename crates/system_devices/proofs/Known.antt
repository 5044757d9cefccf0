-- What is read of a file whose bytes are known, and what is written of a piece.
use Rattle.std.proofs.Common.{◌≡◌, ℕ, ◌+◌, ◌≤◌, ◌<◌, List, ◌++◌, None, Some, IfSome, ◌-◌, sym, ap, ◌∙◌, length, take, drop, take_all, take-append-drop, append_assoc, append-nil, arith}
use Rattle.std.proofs.lemmas.List.{take_rest}
use Rattle.std.specs.Prelude.{Option}
use Rattle.std.specs.Io.KnownBytes.{Keeps, Consumes, IsAtEnd}
use Rattle.rb_base.specs.Outside.{OnFile, IsNoFile}
use Rattle.system_devices.specs.KnownFiles.{told_of_known}
use lib.Seq.{take_at}
use lib.ListN.{length-take}

-- nothing says that a file is not there
pub never_missing : (known : Option (List ℕ)) → IsNoFile (told_of_known known) → ⊥
never_missing None p = p
never_missing (Some bytes) p = p

-- what has room for a byte more after it is the whole
taken_short : (n : ℕ) (xs : List ℕ) → length (take n xs) < n → take n xs ≡ xs
taken_short n xs short = take_all n xs (omega (arith, short, length-take n xs))

-- the first bytes, if they are no more than the limit, are the whole file
pub whole_file : (known : Option (List ℕ)) (limit : ℕ) (bytes : List ℕ) → IfSome known (λ xs. bytes ≡ take (limit + 1) xs) → length bytes ≤ limit
    → OnFile (told_of_known known) (λ file. bytes ≡ file)
whole_file None limit bytes p q = tt
whole_file (Some xs) limit bytes p q = p ∙ taken_short (limit + 1) xs (omega (arith, q, ap length p))

-- if they are more, so is the file
pub over_file : (known : Option (List ℕ)) (limit : ℕ) (bytes : List ℕ) → IfSome known (λ xs. bytes ≡ take (limit + 1) xs) → limit < length bytes
    → OnFile (told_of_known known) (λ file. limit < length file)
over_file None limit bytes p q = tt
over_file (Some xs) limit bytes p q = omega (arith, q, ap length p, length-take (limit + 1) xs)

-- a reader that was opened and not yet read from
pub opened : (known left : Option (List ℕ)) (most : ℕ) (bytes : List ℕ) → Keeps known left → IfSome left (λ xs. bytes ≡ take most xs) → IfSome known (λ xs. bytes ≡ take most xs)
opened None left most bytes k p = tt
opened (Some xs) None most bytes k p = absurd k
opened (Some xs) (Some ys) most bytes k p = p ∙ ap (take most) k

-- as many bytes as were asked for
pub full : (start now : Option (List ℕ)) (most : ℕ) (bytes : List ℕ) → Consumes start now bytes → length bytes ≡ most → IfSome start (λ xs. bytes ≡ take most xs)
full None now most bytes c e = tt
full (Some xs) None most bytes c e = absurd c
full (Some xs) (Some ys) most bytes c e = sym (ap (take most) c ∙ take_at bytes ys most e)

-- all that there was, and no more than was asked for
pub ended : (start now : Option (List ℕ)) (most : ℕ) (bytes : List ℕ) → Consumes start now bytes → IsAtEnd now → length bytes ≤ most → IfSome start (λ xs. bytes ≡ take most xs)
ended None now most bytes c end few = tt
ended (Some xs) None most bytes c end few = absurd c
ended (Some xs) (Some ys) most bytes c end few = sym (ap (take most) (c ∙ ap (λ l. bytes ++ l) end ∙ append-nil bytes) ∙ take_all most bytes few)

-- the front of the rest goes to what is done
pub moves_front : (all done rest : List ℕ) (n : ℕ) → all ≡ done ++ rest → all ≡ (done ++ take n rest) ++ take (length rest - n) (drop n rest)
moves_front all done rest n e =
    e ∙ ap (λ l. done ++ l) (sym (take-append-drop n rest)) ∙ sym (append_assoc done (take n rest) (drop n rest)) ∙ ap (λ l. (done ++ take n rest) ++ l) (sym (take_rest rest n))
