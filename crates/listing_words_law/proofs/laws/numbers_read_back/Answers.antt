use Rattle.std.proofs.Common.{inl}
use Rattle.listing_words_law.proofs.Fronts.{decimal_front, negative_front, address_front}
use Rattle.listing_words_law.proofs.laws.numbers_read_back.Goals as goal

pub returns : goal.returns
returns c = record {
  decimal = λ n rest h e. inl (decimal_front n rest h e);
  negative = λ n rest h e. inl (negative_front n rest h e);
  address = λ n rest h e. inl (address_front n rest h e);
}
