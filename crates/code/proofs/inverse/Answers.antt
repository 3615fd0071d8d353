-- `code::inverse` meets its contract: the laws of RoundTrip.antt.
-- Assumes nothing.
use Rattle.code.proofs.RoundTrip.{decode_encode, encode_decode, encode_bytes}
use Rattle.code.proofs.inverse.Goals as goal

pub returns : goal.returns
returns c = record { decode_encode = decode_encode; encode_decode = encode_decode; encode_bytes = encode_bytes }
