use Rattle.ovpn_config.proofs.laws.texts_are_read_again.Goals as goal

pub returns : goal.returns
returns c = record {
  decimals = c.reads_decimal_again.ensures;
  addresses = c.reads_ip4_again.ensures;
  masks = c.reads_mask_again.ensures;
  clean_lines = c.reads_no_control.ensures.line;
  clean_words = c.reads_no_control.ensures.words;
  words = c.reads_words_again.ensures;
}
