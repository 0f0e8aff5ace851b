mod Querying
mod Telling
mod Beginning
