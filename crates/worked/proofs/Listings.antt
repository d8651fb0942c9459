-- Listings of worked trees, and the winter book from its bytes to its listing: each text is what a fitter reads.
use Rattle.std.specs.Prelude.{◌≡◌, refl, [], negsuc, replicate}
use Rattle.definition.specs.Listing.{text, digits, decimal, signed_decimal, degrees}
use Rattle.definition.specs.Answers.{refused}
use Rattle.worked.specs.Books.{words_B, words_D, words_E, words_H}
use Rattle.worked.specs.Calls.{plan, reply, fits}
use Rattle.worked.specs.Compute.{computed, computed_is}
use Rattle.worked.specs.Table.{nines}
use Rattle.worked.specs.Listings.{shown, reads_as, book_winter, words_winter}

pub listing_B : shown 110 words_B ≡ reads_as 108 "1 match site 0\n  1.1 is Variant 1\n    1.1.1 return rule 0 pos 100 result 1\n2 return rule 1 pos 200 result 2\n"
unfolding shown
listing_B = refl

pub listing_D : shown 59 words_D ≡ reads_as 57 "1 equal sites 0 and 1\n  1.1 return rule 0 pos 5 result 2\n"
unfolding shown
listing_D = refl

pub listing_E : shown 119 words_E ≡ reads_as 117 "let site 1\nlet site 2\n1 match site 2\n  1.1 is ConstInt 7 tenths = 0.7 degrees\n    1.1.1 return rule 0 pos 9 result 3\n"
unfolding shown
listing_E = refl

pub listing_H : shown 183 words_H ≡ reads_as 181 "1 match site 0\n  1.1 is ConstInt -400 tenths = -40.0 degrees\n    1.1.1 return rule 1 pos 2 result 2\n  1.2 is ConstInt 85 tenths = 8.5 degrees\n    1.2.1 return rule 0 pos 1 result 2\n"
unfolding shown
listing_H = refl

-- refusals 9 and 11
pub too_short : shown 10 words_B ≡ record { answer = refused 9; room = replicate 10 0 }
unfolding shown
too_short = refl

pub no_words : shown 3 [] ≡ record { answer = refused 11; room = nines 3 }
unfolding shown
no_words = refl

-- numbers
pub least_number : signed_decimal (negsuc 2147483647) ≡ text "-2147483648"
unfolding signed_decimal decimal digits
least_number = refl

pub half_a_degree_below : degrees (negsuc 4) ≡ text "-0.5"
unfolding degrees decimal digits
half_a_degree_below = refl

pub winter_planned : reply (plan book_winter (nines 44)) ≡ fits 44 words_winter
unfolding computed
winter_planned = computed_is (plan book_winter (nines 44))

pub listing_winter : shown 248 words_winter ≡ reads_as 246 "1 match site 0\n  1.1 is Variant 9\n    1.1.1 return rule 0 pos 1 result 4\n2 match site 1\n  2.1 is ConstInt -400 tenths = -40.0 degrees\n    2.1.1 return rule 1 pos 2 result 3\n3 match site 0\n  3.1 is Variant 2\n    3.1.1 return rule 2 pos 3 result 2\n"
unfolding shown
listing_winter = refl
