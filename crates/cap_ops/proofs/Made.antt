-- A value that is put together of a tag and halves that are those of a result.
use Rattle.std.proofs.Common.{◌≡◌, ℕ, ◌/◌, ◌%◌, ◌^◌, Bool, refl}
use Rattle.cap_model.specs.values.CapValue.{CapValue, value_at, IsTaggedWord}
use Rattle.cap_model.specs.results.EditedWords.{word_of_halves, word_with_address, word_with_upper, with_rounded_fields, with_rounded_bounds}
use Rattle.cap_model.proofs.Results.Values.{IsResult}

-- the halves of edited words
pub address_word : (word upper addr : ℕ) → upper ≡ word / 2 ^ 64 → word_of_halves upper addr ≡ word_with_address word addr
unfolding word_with_address
address_word word upper addr e = rw e refl

pub upper_word : (word upper edited addr : ℕ) → upper ≡ edited → addr ≡ word % 2 ^ 64 → word_of_halves upper addr ≡ word_with_upper word edited
unfolding word_with_upper
upper_word word upper edited addr e same = rw (e, same) refl

pub rounded_word : (word upper base len addr : ℕ) → upper ≡ with_rounded_fields (word / 2 ^ 64) base len → addr ≡ word % 2 ^ 64 →
    word_of_halves upper addr ≡ with_rounded_bounds word base len
unfolding with_rounded_bounds word_with_upper
rounded_word word upper base len addr e same = rw (e, same) refl

-- its word may have its tag, and it is the result
pub made_tagged : (v : CapValue) (tag t : Bool) (word w : ℕ) → IsResult v tag word → t ≡ tag → w ≡ word → IsTaggedWord t w
made_tagged v tag t word w r same_tag same_word = rw (same_tag, same_word) r.tagged

pub made_value : (v : CapValue) (tag t : Bool) (word w : ℕ) → IsResult v tag word → t ≡ tag → w ≡ word → value_at t w ≡ v
made_value v tag t word w r same_tag same_word = rw (same_tag, same_word) r.same
