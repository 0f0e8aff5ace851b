mod Base64Laws
mod Digits
mod FieldLaws
mod SpellingLaws
mod VerdictLaws
mod XorLemmas
