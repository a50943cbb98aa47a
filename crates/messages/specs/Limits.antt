-- The limit of an order, in the 32 bits of its field.
use Rattle.std.specs.Prelude.{ℕ, ◌^◌, Bool, cond, ℤ, pos, negsuc, ◌-ℤ◌, nat_lt}
use Rattle.std.proofs.Common.{of_z}
use Rattle.std.specs.Int.{w32}
use Rattle.contents.specs.declared.edition.Edition.{Edition}
use Rattle.contents.specs.declared.edition.Edition.TheVariants.{Unsigned, Signed}

-- the number that 32 bits say in two's complement
abbrev pub twos_complement : ℕ → ℤ
twos_complement raw = cond (nat_lt raw (2 ^ 31)) (pos raw) (pos raw -ℤ pos (2 ^ 32))

-- the limit that 32 bits say: in two's complement in the signed edition, without a sign in the other
abbrev pub limit_in : Edition → ℕ → ℤ
limit_in Unsigned raw = pos raw
limit_in Signed raw = twos_complement raw

-- a limit from −2^31 to 2^31 − 1 has 32 bits in two's complement
abbrev pub limit_fits : ℤ → Bool
limit_fits (pos n) = nat_lt n (2 ^ 31)
limit_fits (negsuc n) = nat_lt n (2 ^ 31)

abbrev pub limit_bits : ℤ → ℕ
limit_bits limit = of_z w32 limit
