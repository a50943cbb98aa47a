-- What is printed of a message that was read or written.
use Rattle.std.specs.Prelude.{ℕ, ◌+◌, ◌^◌, Bool, true, false, cond, List, [], ◌∷◌, ◌++◌, ℤ, pos, ◌-ℤ◌, neg_ℤ, codes, decimal, ◌==◌, int_le, int_lt}
use Rattle.std.specs.Fmt.{signed_decimal}
use Rattle.contents.specs.declared.time.TimeInForce.TheVariants.{Day}
use Rattle.contents.specs.declared.message.Message.{Message}
use Rattle.contents.specs.declared.message.Message.TheVariants.{Place, Cancel, Evaluate, Define}
use Rattle.contents.specs.Legs.{leg_text}
use Rattle.contents.specs.Sides.{side_text}
use Rattle.contents.specs.Times.{time_code}
use Rattle.messages.specs.Writing.{leg}
use Rattle.hex_bytes.specs.Bytes.{hex_of}

abbrev pub time_text : ℕ → List ℕ
time_text code = cond (code == time_code Day) (codes "day") (codes "ioc")

-- a market order shows its limit only where it has one
abbrev pub is_zero : ℤ → Bool
is_zero limit = cond (int_le limit (pos 0)) (int_le (pos 0) limit) false

abbrev pub limit_text : Bool → ℤ → List ℕ
limit_text true limit = cond (is_zero limit) (codes "market") (codes "market limit " ++ signed_decimal limit)
limit_text false limit = codes "limit " ++ signed_decimal limit

abbrev pub message_text : ℕ → Message → List ℕ
message_text e (Place o) =
    codes "place edition " ++ (decimal e ++ (codes " strategy " ++ (decimal o.strategy ++ (codes " " ++ (side_text o.side ++ (codes " " ++ (limit_text o.market o.limit ++ (codes " " ++ (time_text o.time_in_force ++ (codes " quantity " ++ decimal o.quantity))))))))))
message_text e (Cancel n) = codes "cancel edition " ++ (decimal e ++ (codes " number " ++ decimal n))
message_text e (Evaluate s) = codes "evaluate edition " ++ (decimal e ++ (codes " strategy " ++ decimal s))
message_text e (Define d) =
    codes "define edition " ++ (decimal e ++ (codes " count " ++ (decimal d.count ++ (codes " legs " ++ (leg_text (leg d.legs 0) ++ (codes " " ++ (leg_text (leg d.legs 1) ++ (codes " " ++ (leg_text (leg d.legs 2) ++ (codes " " ++ leg_text (leg d.legs 3)))))))))))

-- a limit beyond this is warned of, with what the same 32 bits say in two's complement
abbrev pub greatest_limit : ℕ
greatest_limit = 40000000

abbrev pub is_beyond : ℤ → Bool
is_beyond limit = cond (int_lt (pos greatest_limit) limit) true (int_lt limit (neg_ℤ (pos greatest_limit)))

abbrev pub reread : ℤ → ℤ
reread limit = cond (int_lt limit (pos (2 ^ 31))) limit (limit -ℤ pos (2 ^ 32))

unfoldable pub warning_text : ℤ → List ℕ
warning_text limit = codes "warning limit " ++ (signed_decimal limit ++ (codes " is beyond 40000000, in edition 2 it reads " ++ signed_decimal (reread limit)))

-- bytes are shown as two digits each, with a space between them
abbrev pub gap_before : ℕ → List ℕ
gap_before i = cond (i == 0) [] (codes " ")

abbrev pub bytes_from : ℕ → List ℕ → List ℕ
bytes_from i [] = []
bytes_from i (b ∷ bs) = gap_before i ++ (hex_of b ++ bytes_from (i + 1) bs)

abbrev pub bytes_text : List ℕ → List ℕ
bytes_text bytes = bytes_from 0 bytes
