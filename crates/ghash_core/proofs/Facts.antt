-- The definitions at the blocks of a published test case (McGrew and Viega, GCM, test case 2), so
-- that a wrong definition does not check.
use Rattle.std.proofs.Common.{◌≡◌, refl}
use Rattle.ghash_core.specs.Field.{partial_product, product, times_power}

pub product_of_test_case_2 : product 0x0388dace60b6a392f328c2b971b2fe78 0x66e94bd4ef8a2c3b884cfa59ca342b2e ≡ 0x5e2ec746917062882c85b0685353deb7
unfolding partial_product product times_power
product_of_test_case_2 = refl
