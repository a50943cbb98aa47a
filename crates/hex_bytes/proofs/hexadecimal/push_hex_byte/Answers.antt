use Rattle.std.proofs.Common.{append_assoc, rules}
use Rattle.hex_bytes.proofs.Hexes.{byte_back}
use Rattle.hex_bytes.proofs.hexadecimal.push_hex_byte.Goals as goal

pub returns-in_err-reserve : goal.returns-in_err-reserve
returns-in_err-reserve c = record { written = search rules; read_again = byte_back c.args.byte (search rules) }

pub returns : goal.returns
returns c = record { written = search (rules, append_assoc); read_again = byte_back c.args.byte (search rules) }
